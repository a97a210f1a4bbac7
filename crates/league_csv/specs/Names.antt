-- The names of the first row.
use Rattle.std.specs.Prelude.{ℕ, ◌+◌, ◌&&◌, List, [], ◌∷◌, drop, Bool, false, if◌then◌else◌, Result, Ok, Err}
use Rattle.std.specs.Str.{is_utf8}
use Rattle.league.specs.Names.{is_team_name}
use Rattle.schedule_csv.specs.Cells.{is_mark, unmarked}
use Rattle.league_csv.specs.declared.fault.DistanceCellFault.{DistanceCellFault}
use Rattle.league_csv.specs.declared.fault.DistanceCellFault.TheVariants.{NoName}
use Rattle.league_csv.specs.declared.fault.DistanceFault.{DistanceFault}
use Rattle.league_csv.specs.Reading.{◌>>=◌, behind, placed}

-- two marks are one: a mark is left out behind another that wasn't
abbrev pub single_marks : Bool → List ℕ → List ℕ
single_marks behind_mark [] = []
single_marks behind_mark (b ∷ bs) =
    if behind_mark && is_mark b then single_marks false bs else b ∷ single_marks (is_mark b) bs

-- the name that a cell has
abbrev pub name_in : List ℕ → List ℕ
name_in cell = single_marks false (unmarked cell)

abbrev pub league_name : List ℕ → Result (List ℕ) DistanceCellFault
league_name name = if is_team_name name && is_utf8 name then Ok name else Err NoName

-- the names of the cells from this column on
abbrev pub names_from : ℕ → ℕ → List (List ℕ) → Result (List (List ℕ)) DistanceFault
names_from line column [] = Ok []
names_from line column (cell ∷ cells) =
    placed line column (league_name (name_in cell)) >>= λ name. behind (name ∷ []) (names_from line (column + 1) cells)

-- those of a first row, behind a corner or not
abbrev pub names_of : ℕ → Bool → List (List ℕ) → Result (List (List ℕ)) DistanceFault
names_of line has_corner cells = if has_corner then names_from line 1 (drop 1 cells) else names_from line 0 cells
