-- What is wrong with a line of a script.
use Rattle.std.specs.Prelude.{ℕ, ◌==◌, List, [], ◌∷◌, length, codes, slice_index, Bool, true, false, not}
use Rattle.std.specs.Prelude.{Option, Some, None, is_some, option_map, if◌then◌else◌}
use Rattle.std.specs.Option.{option_map_or}
use Rattle.std.specs.Str.{bytes_eq}
use Rattle.league_json.specs.Json.{only_if}
use Rattle.board_texts.specs.Command.{keyword_of}
use Rattle.text_lines.specs.Number.{number_of}
use Rattle.text_lines.specs.Words.{words_of}
use Rattle.board_texts.specs.declared.script_line.Keyword.{Keyword}
use Rattle.board_texts.specs.declared.script_line.Keyword.TheVariants as key
use Rattle.board_texts.specs.declared.script_line.ScriptLine.{ScriptLine}
use Rattle.board_texts.specs.declared.script_line.ScriptLine.TheVariants.{Skip, Slack, Asks, Tries, Bad}
use Rattle.league_forms.specs.Forms.{or_else}
use Rattle.script_hints.specs.declared.cause.Cause.{Cause}
use Rattle.script_hints.specs.declared.cause.Cause.TheVariants as cause
use Rattle.script_hints.specs.Cause.{quote_of_bytes}

-- how many numbers stand behind the keyword
abbrev pub argument_count : Keyword → ℕ
argument_count key.Homes = 2
argument_count key.Rounds = 2
argument_count key.Teams = 2
argument_count key.PartRounds = 3
argument_count key.PartTeams = 3
argument_count key.Pin = 3
argument_count key.Unpin = 3
argument_count key.Undo = 0
argument_count key.Slack = 1

-- the keyword begins a move
abbrev pub begins_move : Keyword → Bool
begins_move key.Pin = false
begins_move key.Unpin = false
begins_move key.Undo = false
begins_move key.Slack = false
begins_move _ = true

-- the first word that is no number
abbrev pub first_no_number : List (List ℕ) → Option (List ℕ)
first_no_number [] = None
first_no_number (word ∷ words) = if is_some (number_of word) then first_no_number words else Some word

-- a word is no number, or there are too few or too many
abbrev pub arguments_cause : Keyword → List (List ℕ) → Option Cause
arguments_cause keyword words =
    or_else (option_map (λ word. cause.NoNumber (quote_of_bytes word)) (first_no_number words))
    (only_if (not (length words == argument_count keyword)) (cause.Arguments keyword))

-- the first word begins no command, or the others are wrong
abbrev pub named_cause : List ℕ → Option Keyword → List (List ℕ) → Option Cause
named_cause word None words = Some (cause.NoLine (quote_of_bytes word))
named_cause word (Some keyword) words = arguments_cause keyword words

abbrev pub command_cause : List (List ℕ) → Option Cause
command_cause [] = Some cause.NoMove
command_cause (word ∷ words) = named_cause word (keyword_of word) words

abbrev pub is_move : List (List ℕ) → Bool
is_move [] = false
is_move (word ∷ words) = option_map_or begins_move (keyword_of word) false

-- behind `try`
abbrev pub try_cause : List (List ℕ) → Option Cause
try_cause words = or_else (command_cause words) (only_if (not (is_move words)) cause.NoMove)

abbrev pub cause_in_words : List (List ℕ) → Option Cause
cause_in_words [] = None
cause_in_words (word ∷ words) =
    if slice_index word 0 == 35 then None
    else if bytes_eq word (codes "try") then try_cause words
    else command_cause (word ∷ words)

-- what is wrong with a line of a script, if something is
abbrev pub script_cause : List ℕ → Option Cause
script_cause line = cause_in_words (words_of line)

abbrev pub is_bad : ScriptLine → Bool
is_bad Bad = true
is_bad Skip = false
is_bad (Slack slack) = false
is_bad (Asks change) = false
is_bad (Tries mv) = false
