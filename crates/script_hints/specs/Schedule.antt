-- What is wrong with a line of a schedule.
use Rattle.std.specs.Prelude.{ℕ, ◌-◌, ◌==◌, List, [], ◌∷◌, length, take, codes, slice_index}
use Rattle.std.specs.Prelude.{Option, Some, None, is_some, option_map, if◌then◌else◌}
use Rattle.std.specs.Str.{bytes_eq}
use Rattle.text_lines.specs.Number.{number_of}
use Rattle.text_lines.specs.Words.{words_of}
use Rattle.schedule_texts.specs.ScheduleText.{game_of_word}
use Rattle.script_hints.specs.declared.cause.Cause.{Cause}
use Rattle.script_hints.specs.declared.cause.Cause.TheVariants as cause
use Rattle.script_hints.specs.Cause.{quote_of_bytes}

-- the first word that is no game
abbrev pub first_no_game : List (List ℕ) → Option (List ℕ)
first_no_game [] = None
first_no_game (word ∷ words) = if is_some (game_of_word 0 word) then first_no_game words else Some word

-- a word behind the number is no game
abbrev pub games_cause : List (List ℕ) → Option Cause
games_cause words = option_map (λ word. cause.NoGame (quote_of_bytes word)) (first_no_game words)

-- the word behind `round` has no colon, or what stands before it is no number
abbrev pub numbered_cause : List ℕ → List (List ℕ) → Option Cause
numbered_cause word words =
    if slice_index word (length word - 1) == 58
    then (if is_some (number_of (take (length word - 1) word))
    then games_cause words else Some (cause.NoNumber (quote_of_bytes (take (length word - 1) word))))
    else Some (cause.NoColon (quote_of_bytes word))

abbrev pub round_cause : List (List ℕ) → Option Cause
round_cause [] = Some cause.NoRound
round_cause (word ∷ words) = numbered_cause word words

abbrev pub cause_in_words : List (List ℕ) → Option Cause
cause_in_words [] = None
cause_in_words (word ∷ words) = if bytes_eq word (codes "round") then round_cause words else None

-- what is wrong with a line of a schedule, if something is
abbrev pub schedule_cause : List ℕ → Option Cause
schedule_cause line = cause_in_words (words_of line)
