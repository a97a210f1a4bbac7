use Rattle.std.proofs.Common.{◌≡◌, ◌++◌, length}
use Rattle.std.specs.Str.Lines.{lines}
use Rattle.schedule_texts.specs.ScheduleText.{written_games}
use Rattle.schedule_texts.proofs.schedule_text.written_games.Given as goal

abbrev pub invariant-loop-line : goal.invariant-loop-line
invariant-loop-line l = written_games (lines l.text) ≡ l.games.items ++ written_games (lines l.rest)

abbrev pub decreases-loop-line : goal.decreases-loop-line
decreases-loop-line l = length l.rest
