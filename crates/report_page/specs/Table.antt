-- The games of a schedule as CSV. Teams and rounds are numbered from 0 in calls, and from 1 in the text.
use Rattle.std.specs.Prelude.{ℕ, ◌+◌, ◌==◌, ◌||◌, List, [], ◌∷◌, ◌++◌, Bool, false, codes, decimal, take, if◌then◌else◌}
use Rattle.csv.specs.Writing.{default_writer, row_text, with_delimiter}
use Rattle.csv.specs.declared.writer.WriterBuilder.{WriterBuilder}
use Rattle.fixtures.specs.Games.{Games, cell, round_count}
use Rattle.league.specs.League.{LeagueData, name_of}
use Rattle.byte_streams.specs.Pieces.{pieces_below}
use Rattle.report_page.specs.Labels.{has_round_texts, round_text_of}
use Rattle.report_page.specs.Style.{word_if}
use Rattle.choices.specs.declared.format.CsvForm.{CsvForm}
use Rattle.choices.specs.declared.format.Separator.{Separator}
use Rattle.choices.specs.declared.format.Separator.TheVariants.{Comma, Semicolon, Tab}

abbrev pub byte_of : Separator → ℕ
byte_of Comma = 44
byte_of Semicolon = 59
byte_of Tab = 9

abbrev pub writer_of : Separator → WriterBuilder
writer_of separator = with_delimiter default_writer (byte_of separator)

abbrev pub byte_order_mark : List ℕ
byte_order_mark = 239 ∷ 187 ∷ 191 ∷ []

-- whether a spreadsheet takes the cell for a formula: it begins with `=`, `+`, `-`, `@`, a tab or a carriage return
abbrev pub is_formula : List ℕ → Bool
is_formula [] = false
is_formula (b ∷ bs) = b == 61 || (b == 43 || (b == 45 || (b == 64 || (b == 9 || b == 13))))

-- a cell that would be taken for a formula has an apostrophe before it
abbrev pub guarded : List ℕ → List ℕ
guarded cell = word_if (is_formula cell) (codes "'") ++ cell

-- of six cells the last one, the round's text, stands only where the league has texts for its rounds
abbrev pub columns : LeagueData → List (List ℕ) → List (List ℕ)
columns l cells = if has_round_texts l then cells else take 5 cells

abbrev pub head_row : WriterBuilder → LeagueData → List ℕ
head_row writer l = row_text writer (columns l (codes "round" ∷ codes "home" ∷ codes "home name" ∷ codes "away" ∷ codes "away name" ∷
    codes "round text" ∷ []))

abbrev pub game_row : WriterBuilder → LeagueData → ℕ → ℕ → ℕ → List ℕ
game_row writer l round home away =
    row_text writer (columns l (decimal (round + 1) ∷ decimal (home + 1) ∷ guarded (name_of l home) ∷ decimal (away + 1) ∷
    guarded (name_of l away) ∷ guarded (round_text_of l round) ∷ []))

-- the team's game in the round, if the team is at home there
abbrev pub game_at : WriterBuilder → LeagueData → Games → ℕ → ℕ → List ℕ
game_at writer l g round team = if (cell g team round).home then game_row writer l round team (cell g team round).opponent else []

-- in the order of the home teams
abbrev pub games_of_round : WriterBuilder → LeagueData → Games → ℕ → List ℕ
games_of_round writer l g round = pieces_below (game_at writer l g round) g.teams

abbrev pub rows_text : WriterBuilder → LeagueData → Games → List ℕ
rows_text writer l g = head_row writer l ++ pieces_below (games_of_round writer l g) (round_count g.teams)

-- the mark if it is asked for, a head line, and the games of each round
unfoldable pub table_text : CsvForm → LeagueData → Games → List ℕ
table_text form l g = word_if form.has_mark byte_order_mark ++ rows_text (writer_of form.separator) l g
