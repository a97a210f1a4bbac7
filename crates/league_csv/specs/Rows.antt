-- The distances of the rows below the first.
use Rattle.std.specs.Prelude.{ℕ, ◌+◌, ◌==◌, List, [], ◌∷◌, length, slice_index_or, Bool, if◌then◌else◌, Result, Ok, Err}
use Rattle.std.specs.Str.{bytes_eq}
use Rattle.schedule_csv.specs.Cells.{cells, is_empty_row}
use Rattle.league_csv.specs.declared.fault.DistanceCellFault.TheVariants.{Absent, Surplus, OtherName}
use Rattle.league_csv.specs.declared.fault.DistanceFault.{DistanceFault}
use Rattle.league_csv.specs.declared.fault.DistanceFault.TheVariants.{RowsEnd, SurplusRow}
use Rattle.league_csv.specs.declared.measures.Measure.{Measure}
use Rattle.league_csv.specs.Measures.{measure_between}
use Rattle.league_csv.specs.Names.{name_in}
use Rattle.league_csv.specs.Reading.{◌>>=◌, behind, cell_fault, placed}

-- the column of the first distance
abbrev pub first_column : Bool → ℕ
first_column in_column = if in_column then 1 else 0

-- between these cells, with the names in the first column or not, and these names in the first row
module _ (separator : ℕ) (in_column : Bool) (names : List (List ℕ)) where
  -- the distances of a team to the others from one on
  abbrev pub measures_from : ℕ → ℕ → ℕ → List (List ℕ) → Result (List Measure) DistanceFault
  measures_from line team other [] =
      if other == length names then Ok [] else Err (cell_fault line (first_column in_column + other) Absent)
  measures_from line team other (cell ∷ cells) =
      if other == length names then Err (cell_fault line (first_column in_column + other) Surplus)
      else (placed line (first_column in_column + other) (measure_between separator team other cell)
      >>= λ m. behind (m ∷ []) (measures_from line team (other + 1) cells))

  -- the same of a row that begins with the team's name
  abbrev pub named_row : ℕ → ℕ → List (List ℕ) → Result (List Measure) DistanceFault
  named_row line team [] = Err (cell_fault line 0 Absent)
  named_row line team (cell ∷ cells) =
      if bytes_eq (name_in cell) (slice_index_or names team []) then measures_from line team 0 cells
      else Err (cell_fault line 0 OtherName)

  abbrev pub row_of : ℕ → ℕ → List (List ℕ) → Result (List Measure) DistanceFault
  row_of line team cells = if in_column then named_row line team cells else measures_from line team 0 cells

  -- those of the rows from this team's on, the first of which is on this line
  abbrev pub rows_from : ℕ → ℕ → List (List ℕ) → Result (List (List Measure)) DistanceFault
  rows_from line team [] = if team == length names then Ok [] else Err (RowsEnd (team + 1))
  rows_from line team (text ∷ texts) =
      if is_empty_row separator text then rows_from (line + 1) team texts else
      (if team == length names then Err (SurplusRow line) else
      (row_of line team (cells separator text) >>= λ row. behind (row ∷ []) (rows_from (line + 1) (team + 1) texts)))
