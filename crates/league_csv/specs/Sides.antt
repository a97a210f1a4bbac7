-- Distances that are the same both ways.
use Rattle.std.specs.Prelude.{ℕ, zero, suc, ◌+◌, ◌*◌, ◌/◌, ◌%◌, ◌==◌, max, List, [], map, slice_get, slice_index_or, Option, Some, None, if◌then◌else◌}
use Rattle.std.specs.List.{range_with_len}
use Rattle.std.specs.Option.{option_or}
use Rattle.league_csv.specs.declared.fault.Asymmetry.{Asymmetry}
use Rattle.league_csv.specs.declared.measures.Measure.{Measure}
use Rattle.choices.specs.declared.symmetry.Symmetry.{Symmetry}
use Rattle.choices.specs.declared.symmetry.Symmetry.TheVariants.{Mean, Max}

abbrev pub distance_in : Option Measure → ℕ
distance_in (Some m) = m.distance
distance_in None = 0

-- from team a to team b, or 0 beyond the rows
abbrev pub from_to : List (List Measure) → ℕ → ℕ → ℕ
from_to rows a b = distance_in (slice_get (slice_index_or rows a []) b)

-- the distances of a pair both ways, and its teams from 1, if they differ
abbrev pub asymmetry : List (List Measure) → ℕ → ℕ → Option Asymmetry
asymmetry rows a b =
    if from_to rows a b == from_to rows b a then None
    else Some (record { from = a + 1; to = b + 1; there = from_to rows a b; back = from_to rows b a })

-- the first of them among the first k of n teams' distances, row by row
unfoldable pub asymmetry_below : ℕ → List (List Measure) → ℕ → Option Asymmetry
asymmetry_below n rows zero = None
asymmetry_below n rows (suc k) = option_or (asymmetry_below n rows k) (asymmetry rows (k / n) (k % n))

-- the first pair that is further apart one way
abbrev pub first_asymmetry : ℕ → List (List Measure) → Option Asymmetry
first_asymmetry n rows = asymmetry_below n rows (n * n)

-- what stands for the distances of both ways: their mean, half up, or the longer one
abbrev pub both_ways : Option Symmetry → ℕ → ℕ → ℕ
both_ways (Some Mean) there back = (there + back + 1) / 2
both_ways (Some Max) there back = max there back
both_ways None there back = max there back

abbrev pub side : Option Symmetry → List (List Measure) → ℕ → ℕ → ℕ
side choice rows a b = both_ways choice (from_to rows a b) (from_to rows b a)

abbrev pub leveled_row : Option Symmetry → ℕ → List (List Measure) → ℕ → List ℕ
leveled_row choice n rows a = map (side choice rows a) (range_with_len 0 n)

-- the distances of n teams, the same both ways
abbrev pub leveled : Option Symmetry → ℕ → List (List Measure) → List (List ℕ)
leveled choice n rows = map (leveled_row choice n rows) (range_with_len 0 n)
