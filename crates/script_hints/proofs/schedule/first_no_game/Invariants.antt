-- The words that are left decide.
use Rattle.std.proofs.Common.{◌≡◌, length}
use Rattle.text_lines.specs.Words.{words_of}
use Rattle.script_hints.specs.Schedule.{first_no_game}
use Rattle.script_hints.proofs.schedule.first_no_game.Given as goal

abbrev pub invariant-loop-word : goal.invariant-loop-word
invariant-loop-word l = first_no_game (words_of l.words) ≡ first_no_game (words_of l.rest)

abbrev pub decreases-loop-word : goal.decreases-loop-word
decreases-loop-word l = length (words_of l.rest)
