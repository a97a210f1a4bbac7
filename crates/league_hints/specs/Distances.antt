-- Where a table of distances has a fault. Rows and columns are numbered from 0, and from 1 in hints.
use Rattle.std.specs.Prelude.{ℕ, ◌+◌, ◌&&◌, ◌==◌, not, nat_lt, Option, Some, None, is_some, option_map}
use Rattle.std.specs.Prelude.{option_and_then, if◌then◌else◌}
use Rattle.std.specs.Option.{unwrap_or}
use Rattle.serde_json.specs.Data.{Data}
use Rattle.serde_json.specs.Find.{as_array, at}
use Rattle.league.specs.declared.fault.LeagueFault.{LeagueFault}
use Rattle.league.specs.declared.fault.LeagueFault.TheVariants.{WrongKind, DistanceShape, DistanceRange, Diagonal, Asymmetric}
use Rattle.league_json.specs.Json.{only_if, whole_number}
use Rattle.league.specs.Limits.{max_distance}
use Rattle.league_forms.specs.declared.form.Form.TheVariants.{Whole}
use Rattle.league_hints.specs.declared.hint.Hint.{Hint}
use Rattle.league_hints.specs.declared.hint.Hint.TheVariants.{Rows, TwoDistances, Value}
use Rattle.league_hints.specs.declared.place.Place.TheVariants.{Row, Distance}
use Rattle.league_hints.specs.declared.hint.Seen.{Seen}
use Rattle.league_hints.specs.declared.hint.Seen.TheVariants as seen
use Rattle.league_hints.specs.declared.wanted.Wanted.{Wanted}
use Rattle.league_hints.specs.declared.wanted.Wanted.TheVariants as wanted
use Rattle.league_hints.specs.Firsts.{item_count, or_else, first_below}
use Rattle.league_hints.specs.Seen.{seen_in}

-- what stands in a row and column
abbrev pub value_at : Data → ℕ → ℕ → Option Data
value_at table row column = option_and_then (at column) (at row table)

-- the whole number there
abbrev pub entry : Data → ℕ → ℕ → Option ℕ
entry table row column = option_and_then whole_number (value_at table row column)

-- the same, or 0 if there is none
abbrev pub distance : Data → ℕ → ℕ → ℕ
distance table row column = unwrap_or (entry table row column) 0

-- how many items a row has
abbrev pub columns : Data → ℕ → ℕ
columns table row = unwrap_or (option_map item_count (at row table)) 0

-- the row as a whole has the fault: it is no array, or not of n items
abbrev pub whole_row_hint : LeagueFault → ℕ → Data → ℕ → Option Hint
whole_row_hint (WrongKind field) n table row =
    only_if (not (is_some (option_and_then as_array (at row table))))
    (Value (Row (row + 1)) (seen_in wanted.Numbers (at row table)) wanted.Numbers)
whole_row_hint DistanceShape n table row =
    only_if (not (columns table row == n)) (Value (Row (row + 1)) (seen.Length (columns table row)) (wanted.Exactly n))
whole_row_hint fault n table row = None

-- what a distance has to be
abbrev pub any_distance : Wanted
any_distance = wanted.Number 0 max_distance

abbrev pub wrong_entry : ℕ → ℕ → Seen → Wanted → Hint
wrong_entry row column seen wanted = Value (Distance (row + 1) (column + 1)) seen wanted

-- the item in a row and column has the fault
unfoldable pub entry_hint : LeagueFault → Data → ℕ → ℕ → Option Hint
entry_hint (WrongKind field) table row column =
    only_if (not (is_some (entry table row column)))
    (wrong_entry row column (seen_in any_distance (value_at table row column)) any_distance)
entry_hint DistanceRange table row column =
    only_if (nat_lt max_distance (distance table row column)) (wrong_entry row column (seen.Value (Whole (distance table row column))) any_distance)
entry_hint Diagonal table row column =
    only_if ((row == column) && not (distance table row column == 0))
    (wrong_entry row column (seen.Value (Whole (distance table row column))) (wanted.Exactly 0))
entry_hint Asymmetric table row column =
    only_if (not (distance table row column == distance table column row))
    (TwoDistances (row + 1) (column + 1) (distance table row column) (distance table column row))
entry_hint fault table row column = None

-- the first of the row's items that has the fault
abbrev pub entries_hint : LeagueFault → Data → ℕ → Option Hint
entries_hint fault table row = first_below (columns table row) (entry_hint fault table row)

abbrev pub row_hint : LeagueFault → ℕ → Data → ℕ → Option Hint
row_hint fault n table row = or_else (whole_row_hint fault n table row) (entries_hint fault table row)

-- the first of the rows
abbrev pub table_hint : LeagueFault → ℕ → Data → Option Hint
table_hint fault n table = first_below (item_count table) (row_hint fault n table)

-- where the table has not n rows, this comes first
abbrev pub shape_hint : ℕ → Data → Option Hint
shape_hint n table = if item_count table == n then table_hint DistanceShape n table else Some (Rows (item_count table) n)

abbrev pub distances_hint : LeagueFault → ℕ → Data → Option Hint
distances_hint DistanceShape n table = shape_hint n table
distances_hint fault n table = table_hint fault n table
