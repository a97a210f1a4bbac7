use Rattle.std.proofs.Common.{◌≡◌, length}
use Rattle.std.specs.Str.Lines.{lines}
use Rattle.schedule_texts.specs.LastSheet.{has_round_line, last_sheet}
use Rattle.schedule_texts.proofs.last_sheet.has_round_line.Given as goal

abbrev pub invariant-loop-line : goal.invariant-loop-line
invariant-loop-line l = has_round_line (last_sheet (lines l.text)) ≡ has_round_line (lines l.rest)

abbrev pub decreases-loop-line : goal.decreases-loop-line
decreases-loop-line l = length l.rest
