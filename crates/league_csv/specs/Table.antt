-- The names and distances of a table.
use Rattle.std.specs.Prelude.{ℕ, ◌+◌, is_err, is_some, List, [], ◌∷◌, length, Bool, true, false, if◌then◌else◌, Result, Ok, Err}
use Rattle.std.specs.Str.Lines.{lines}
use Rattle.league.specs.Checks.{is_team_count}
use Rattle.schedule_csv.specs.Cells.{cell_at, cells, is_empty_row}
use Rattle.schedule_csv.specs.Head.{without_order_mark}
use Rattle.league_csv.specs.declared.fault.DistanceFault.{DistanceFault}
use Rattle.league_csv.specs.declared.fault.DistanceFault.TheVariants.{NoRow, TeamCount}
use Rattle.league_csv.specs.declared.measures.Measure.{Measure}
use Rattle.league_csv.specs.Measures.{own_measure}
use Rattle.league_csv.specs.Names.{names_of}
use Rattle.league_csv.specs.Reading.{◌>>=◌, unless}
use Rattle.league_csv.specs.Rows.{rows_from}

pub record TableData : Type 0 where
  pub names : List (List ℕ)
  -- the distances of the first team to each, then those of the second, and so on
  pub rows : List (List Measure)

-- whether a byte parts the cells of a row
abbrev pub parts_cells : ℕ → List ℕ → Bool
parts_cells separator line = is_some (cell_at (cells separator line) 1)

-- the byte between cells, by the first row: a tab, a semicolon or a comma
abbrev pub separator_of : List ℕ → ℕ
separator_of line = if parts_cells 9 line then 9 else (if parts_cells 59 line then 59 else 44)

abbrev pub begins_with_name : ℕ → List (List ℕ) → Bool
begins_with_name separator [] = false
begins_with_name separator (cell ∷ cells) = is_err (own_measure separator cell)

-- whether names stand in the first column: the first row below begins with what is no distance of a team to itself
abbrev pub has_names : ℕ → List (List ℕ) → Bool
has_names separator [] = false
has_names separator (line ∷ lines) =
    if is_empty_row separator line then has_names separator lines else begins_with_name separator (cells separator line)

-- the table whose first row is on this line, with names in the first column or not
unfoldable pub table_with : Bool → ℕ → ℕ → List ℕ → List (List ℕ) → Result TableData DistanceFault
table_with in_column separator line first rows = do
  names ← names_of line in_column (cells separator first)
  counted ← unless (is_team_count (length names)) TeamCount
  measured ← rows_from separator in_column names (line + 1) 0 rows
  Ok (record { names = names; rows = measured })

abbrev pub table_below : ℕ → ℕ → List ℕ → List (List ℕ) → Result TableData DistanceFault
table_below separator line first rows = table_with (has_names separator rows) separator line first rows

-- the table of the rows from this line on, or the first fault
abbrev pub table_from : ℕ → List (List ℕ) → Result TableData DistanceFault
table_from line [] = Err NoRow
table_from line (row ∷ rows) =
    if is_empty_row (separator_of row) row then table_from (line + 1) rows else table_below (separator_of row) line row rows

abbrev pub table_of : List ℕ → Result TableData DistanceFault
table_of text = table_from 1 (lines (without_order_mark text))
