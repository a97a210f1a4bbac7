-- The line that tells on a terminal how far a search is.
use Rattle.std.specs.Prelude.{ℕ, ◌*◌, ◌/◌, ◌%◌, min, max, List, [], ◌∷◌, ◌++◌, Option, Some, None, codes, decimal}
use Rattle.std.specs.List.{concat}
use Rattle.board_texts.specs.declared.progress_text.Advance.{Advance}
use Rattle.text_lines.specs.Lines.{counted}

-- what takes away a terminal's line: a carriage return, and the sequence that erases to the end of the line
abbrev pub clear_line : List ℕ
clear_line = 13 ∷ 27 ∷ codes "[K"

-- what has a terminal cut a text at its width, and what has it go on in the next line again
abbrev pub wrap_off : List ℕ
wrap_off = 27 ∷ codes "[?7l"

abbrev pub wrap_on : List ℕ
wrap_on = 27 ∷ codes "[?7h"

-- so many of all, in percent
abbrev pub percent : ℕ → ℕ → ℕ
percent steps all = min (steps * 100 / max all 1) 100

abbrev pub steps_text : Advance → List ℕ
steps_text a = concat (decimal (percent a.steps a.all) ∷ codes " % steps " ∷ decimal a.steps ∷ codes " of " ∷ decimal a.all ∷ [])

abbrev pub least_text : Option ℕ → List ℕ
least_text None = codes " best none"
least_text (Some total) = counted (codes " best ") total

-- hours, minutes and seconds, the latter two with two digits
abbrev pub left_text : Option ℕ → List ℕ
left_text None = []
left_text (Some s) =
    concat (codes " left " ∷ decimal (s / 3600) ∷ codes ":" ∷ decimal (s / 600 % 6) ∷ decimal (s / 60 % 10) ∷ codes ":" ∷
    decimal (s / 10 % 6) ∷ decimal (s % 10) ∷ [])

-- the share of the steps that were taken, how many of all, the least total and the time that is left, written over a terminal's line and
-- cut at its width
abbrev pub progress_line : Advance → List ℕ
progress_line a = clear_line ++ wrap_off ++ steps_text a ++ least_text a.least ++ left_text a.left ++ wrap_on
