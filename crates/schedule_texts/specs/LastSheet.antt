-- The last sheet of a text.
use Rattle.std.specs.Prelude.{ℕ, Bool, true, false, ◌||◌, List, [], ◌∷◌, codes, if◌then◌else◌}
use Rattle.std.specs.Str.{bytes_eq}
use Rattle.std.specs.Str.Lines.{lines}
use Rattle.text_lines.specs.Words.{words_of}
use Rattle.schedule_texts.specs.declared.schedule_text.ScheduleLine.{ScheduleLine}
use Rattle.schedule_texts.specs.declared.schedule_text.ScheduleLine.TheVariants.{Other, Bad, Round}
use Rattle.schedule_texts.specs.ScheduleText.{line_of}

-- whether the first of a line's words is `league`
abbrev pub begins_sheet : List (List ℕ) → Bool
begins_sheet [] = false
begins_sheet (word ∷ words) = bytes_eq word (codes "league")

abbrev pub has_sheet_line : List (List ℕ) → Bool
has_sheet_line [] = false
has_sheet_line (line ∷ lines) = begins_sheet (words_of line) || has_sheet_line lines

-- the lines, in which those up to the last one that begins with `league` are blank
abbrev pub last_sheet : List (List ℕ) → List (List ℕ)
last_sheet [] = []
last_sheet (line ∷ lines) = (if has_sheet_line (line ∷ lines) then [] else line) ∷ last_sheet lines

-- whether the line's first word is `round`
abbrev pub is_of_round : ScheduleLine → Bool
is_of_round Other = false
is_of_round Bad = true
is_of_round (Round round) = true

abbrev pub has_round_line : List (List ℕ) → Bool
has_round_line [] = false
has_round_line (line ∷ lines) = is_of_round (line_of line) || has_round_line lines
