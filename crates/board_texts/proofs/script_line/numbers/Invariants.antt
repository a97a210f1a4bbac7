use Rattle.std.proofs.Common.{◌≡◌, length}
use Rattle.board_texts.specs.Command.{numbers_of}
use Rattle.text_lines.specs.Words.{words_of}
use Rattle.board_texts.proofs.ReadNumbers.{before}
use Rattle.board_texts.proofs.script_line.numbers.Given as goal

abbrev pub invariant-loop-word : goal.invariant-loop-word
invariant-loop-word l = numbers_of (words_of l.line) ≡ before l.numbers.items (numbers_of (words_of l.rest))

abbrev pub decreases-loop-word : goal.decreases-loop-word
decreases-loop-word l = length (words_of l.rest)
