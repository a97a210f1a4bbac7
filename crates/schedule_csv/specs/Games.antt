-- The game of a row.
use Rattle.std.specs.Prelude.{ℕ, ◌+◌, ◌/◌, List, [], ◌∷◌, codes, decimal, Option, Some, None, Result, Ok, Err}
use Rattle.std.specs.List.{concat}
use Rattle.league.specs.League.{LeagueData, teams}
use Rattle.text_lines.specs.Number.{number_of}
use Rattle.schedule_csv.specs.declared.fault.CellFault.{CellFault}
use Rattle.schedule_csv.specs.declared.fault.CellFault.TheVariants.{Absent, NoNumber}
use Rattle.schedule_csv.specs.declared.fault.Column.TheVariants.{Round, Home, Away}
use Rattle.schedule_csv.specs.declared.fault.RowFault.{RowFault}
use Rattle.schedule_csv.specs.declared.games.RowGame.{RowGame}
use Rattle.schedule_csv.specs.declared.head.GamesHead.{GamesHead}
use Rattle.schedule_csv.specs.Cells.{cell_at, cells, unmarked}
use Rattle.schedule_csv.specs.Names.{team_of}

abbrev pub or_no_number : Option ℕ → Result ℕ CellFault
or_no_number (Some number) = Ok number
or_no_number None = Err NoNumber

abbrev pub round_of_cell : Option (List ℕ) → Result ℕ CellFault
round_of_cell (Some cell) = or_no_number (number_of (unmarked cell))
round_of_cell None = Err Absent

-- the round in its column; without one, each n / 2 games one after another are a round of n teams
abbrev pub round_of : LeagueData → Option ℕ → List (List ℕ) → ℕ → Result ℕ CellFault
round_of l (Some column) cells before = round_of_cell (cell_at cells column)
round_of l None cells before = Ok (before / (teams l / 2) + 1)

abbrev pub team_of_cell : LeagueData → Option (List ℕ) → Result ℕ CellFault
team_of_cell l (Some cell) = team_of l cell
team_of_cell l None = Err Absent

-- a game if the three cells have no fault, or else the first of theirs
abbrev pub game_of_cells : ℕ → Result ℕ CellFault → Result ℕ CellFault → Result ℕ CellFault → Result RowGame RowFault
game_of_cells line (Ok round) (Ok home) (Ok away) = Ok (record { round = round; home = home; away = away })
game_of_cells line (Ok round) (Ok home) (Err why) = Err (record { line = line; column = Away; why = why })
game_of_cells line (Ok round) (Err why) away = Err (record { line = line; column = Home; why = why })
game_of_cells line (Err why) home away = Err (record { line = line; column = Round; why = why })

abbrev pub game_of_row : LeagueData → GamesHead → ℕ → ℕ → List (List ℕ) → Result RowGame RowFault
game_of_row l head line before cells =
    game_of_cells line (round_of l head.round cells before) (team_of_cell l (cell_at cells head.home))
    (team_of_cell l (cell_at cells head.away))

-- the game as a line of a sheet
abbrev pub game_line : RowGame → List ℕ
game_line game = concat (codes "round " ∷ decimal game.round ∷ codes ": " ∷ decimal game.home ∷ codes "-" ∷ decimal game.away ∷
    codes "\n" ∷ [])
