use Rattle.std.proofs.Common.{◌≡◌, length}
use Rattle.std.specs.Str.Lines.{lines}
use Rattle.schedule_texts.specs.ScheduleText.{has_bad_line}
use Rattle.schedule_texts.proofs.schedule_text.has_bad_line.Given as goal

abbrev pub invariant-loop-line : goal.invariant-loop-line
invariant-loop-line l = has_bad_line (lines l.text) ≡ has_bad_line (lines l.rest)

abbrev pub decreases-loop-line : goal.decreases-loop-line
decreases-loop-line l = length l.rest
