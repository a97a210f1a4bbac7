-- The sheet that a table stands for, a line for each of its games.
use Rattle.std.specs.Prelude.{◌≡◌, ℕ, ◌+◌, Bool, false, List, [], ◌∷◌, ◌++◌, is_some, Option, Some, None, Result, Ok, Err, if◌then◌else◌}
use Rattle.std.specs.Str.Lines.{lines}
use Rattle.league.specs.League.{LeagueData}
use Rattle.schedule_csv.specs.declared.fault.RowFault.{RowFault}
use Rattle.schedule_csv.specs.declared.fault.TableFault.{TableFault}
use Rattle.schedule_csv.specs.declared.fault.TableFault.TheVariants.{Memory, Row}
use Rattle.schedule_csv.specs.declared.games.RowGame.{RowGame}
use Rattle.schedule_csv.specs.declared.head.GamesHead.{GamesHead}
use Rattle.schedule_csv.specs.declared.table.ScheduleText.{ScheduleText}
use Rattle.schedule_csv.specs.declared.table.ScheduleText.TheVariants.{Given, Made}
use Rattle.schedule_csv.specs.Cells.{cells, is_empty_row}
use Rattle.schedule_csv.specs.Games.{game_line, game_of_row}
use Rattle.schedule_csv.specs.Head.{head_of}

-- behind a text, unless there is a fault
abbrev pub behind : List ℕ → Result (List ℕ) RowFault → Result (List ℕ) RowFault
behind text (Ok more) = Ok (text ++ more)
behind text (Err fault) = Err fault

-- the line of a row's game and those of the rows below, or the first fault
abbrev pub with_game : Result RowGame RowFault → Result (List ℕ) RowFault → Result (List ℕ) RowFault
with_game (Ok game) more = behind (game_line game) more
with_game (Err fault) more = Err fault

-- the lines of the games of rows, the first of which is on this line, and has so many games above it
abbrev pub rows_text : LeagueData → GamesHead → ℕ → ℕ → List (List ℕ) → Result (List ℕ) RowFault
rows_text l head number before [] = Ok []
rows_text l head number before (line ∷ more) =
    if is_empty_row head.separator line then rows_text l head (number + 1) before more
    else with_game (game_of_row l head number before (cells head.separator line)) (rows_text l head (number + 1) (before + 1) more)

abbrev pub lines_in : Result (List ℕ) RowFault → Result (List (List ℕ)) RowFault
lines_in (Ok text) = Ok (lines text)
lines_in (Err fault) = Err fault

-- the lines of a text, or those that stand for it if it is a table
abbrev pub lines_by_head : LeagueData → Option GamesHead → List (List ℕ) → List (List ℕ) → Result (List (List ℕ)) RowFault
lines_by_head l None given rows = Ok given
lines_by_head l (Some head) given rows = lines_in (rows_text l head 2 0 rows)

-- whether a text is a table: its first line is a head row
abbrev pub is_table : List (List ℕ) → Bool
is_table [] = false
is_table (first ∷ rows) = is_some (head_of first)

-- the lines of a schedule, which may be a table
unfoldable pub schedule_lines : LeagueData → List (List ℕ) → Result (List (List ℕ)) RowFault
schedule_lines l [] = Ok []
schedule_lines l (first ∷ rows) = lines_by_head l (head_of first) (first ∷ rows) rows

abbrev pub text_of : ScheduleText → List ℕ
text_of (Given text) = text.now
text_of (Made text) = text.items

-- what a call gives for the lines of a schedule, if memory is there
abbrev pub GivesLines : LeagueData → List (List ℕ) → Result ScheduleText TableFault → Type 0
GivesLines l given (Ok text) = schedule_lines l given ≡ Ok (lines (text_of text))
GivesLines l given (Err (Row fault)) = schedule_lines l given ≡ Err fault
GivesLines l given (Err Memory) = Unit {0}
