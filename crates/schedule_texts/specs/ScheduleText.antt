-- The games that a text gives, in its lines whose first word is `round`. All other lines are passed over.
use Rattle.std.specs.Prelude.{ℕ, ◌-◌, ◌==◌, Bool, true, false, ◌&&◌, ◌||◌, List, [], ◌∷◌, ◌++◌, length, take, codes, slice_index}
use Rattle.std.specs.Prelude.{Option, Some, None, if◌then◌else◌}
use Rattle.std.specs.Option.{is_some}
use Rattle.std.specs.Str.{bytes_eq}
use Rattle.text_lines.specs.Number.{after_dash, before_dash, number_of}
use Rattle.text_lines.specs.Words.{words_of}
use Rattle.schedule_texts.specs.declared.schedule_text.ScheduleLine.{ScheduleLine}
use Rattle.schedule_texts.specs.declared.schedule_text.ScheduleLine.TheVariants.{Other, Bad, Round}
use Rattle.schedule_texts.specs.declared.schedule_text.WrittenGame.{WrittenGame}

abbrev pub game_of_numbers : ℕ → Option ℕ → Option ℕ → Option WrittenGame
game_of_numbers round (Some home) (Some away) = Some (record { round = round; home = home; away = away })
game_of_numbers round (Some home) None = None
game_of_numbers round None away = None

-- the game `H-A` of the round: the numbers before and after the first dash
abbrev pub game_of_word : ℕ → List ℕ → Option WrittenGame
game_of_word round word = game_of_numbers round (before_dash word) (after_dash word)

-- the number `R` of the word `R:`
abbrev pub round_of_word : List ℕ → Option ℕ
round_of_word word = if slice_index word (length word - 1) == 58 then number_of (take (length word - 1) word) else None

-- whether each word is a game of the round
abbrev pub are_games : ℕ → List (List ℕ) → Bool
are_games round [] = true
are_games round (word ∷ words) = is_some (game_of_word round word) && are_games round words

abbrev pub numbered_line : Option ℕ → List (List ℕ) → ScheduleLine
numbered_line None words = Bad
numbered_line (Some round) words = if are_games round words then Round round else Bad

-- by the words after `round`: a number and a colon, and games
abbrev pub round_line : List (List ℕ) → ScheduleLine
round_line [] = Bad
round_line (number ∷ words) = numbered_line (round_of_word number) words

abbrev pub line_of_words : List (List ℕ) → ScheduleLine
line_of_words [] = Other
line_of_words (word ∷ words) = if bytes_eq word (codes "round") then round_line words else Other

-- what a line says
abbrev pub line_of : List ℕ → ScheduleLine
line_of bytes = line_of_words (words_of bytes)

abbrev pub with_game : Option WrittenGame → List WrittenGame → List WrittenGame
with_game None games = games
with_game (Some game) games = game ∷ games

-- the games of the round among the words
abbrev pub games_of_words : ℕ → List (List ℕ) → List WrittenGame
games_of_words round [] = []
games_of_words round (word ∷ words) = with_game (game_of_word round word) (games_of_words round words)

-- the games of a line that says this
abbrev pub games_of_line : ScheduleLine → List (List ℕ) → List WrittenGame
games_of_line (Round round) words = games_of_words round words
games_of_line Bad words = []
games_of_line Other words = []

-- the games that the lines give, in their order
abbrev pub written_games : List (List ℕ) → List WrittenGame
written_games [] = []
written_games (line ∷ lines) = games_of_line (line_of line) (words_of line) ++ written_games lines

abbrev pub is_bad : ScheduleLine → Bool
is_bad Bad = true
is_bad (Round round) = false
is_bad Other = false

abbrev pub has_bad_line : List (List ℕ) → Bool
has_bad_line [] = false
has_bad_line (line ∷ lines) = is_bad (line_of line) || has_bad_line lines
