use Rattle.std.proofs.Common.{◌≡◌, length}
use Rattle.text_lines.specs.Words.{words_of}
use Rattle.schedule_texts.specs.ScheduleText.{are_games}
use Rattle.schedule_texts.proofs.schedule_text.are_games.Given as goal

abbrev pub invariant-loop-word : goal.invariant-loop-word
invariant-loop-word l = are_games l.round (words_of l.words) ≡ are_games l.round (words_of l.rest)

abbrev pub decreases-loop-word : goal.decreases-loop-word
decreases-loop-word l = length (words_of l.rest)
