use Rattle.std.proofs.Common.{◌≡◌, ◌++◌, length}
use Rattle.text_lines.specs.Words.{words_of}
use Rattle.schedule_texts.specs.ScheduleText.{games_of_words}
use Rattle.schedule_texts.proofs.schedule_text.push_words.Given as goal

abbrev pub invariant-loop-word : goal.invariant-loop-word
invariant-loop-word l =
    l.initial.games.items ++ games_of_words l.round (words_of l.line) ≡ l.games.items ++ games_of_words l.round (words_of l.rest)

abbrev pub decreases-loop-word : goal.decreases-loop-word
decreases-loop-word l = length (words_of l.rest)
