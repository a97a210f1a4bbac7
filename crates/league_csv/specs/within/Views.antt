-- What private functions alone need of the vectors that they fill.
use Rattle.std.specs.Prelude.{ℕ, List, map, Vec}
use Rattle.std.specs.declared.alloc.Global.{Global}
use Rattle.league_csv.specs.declared.measures.Measure.{Measure}

abbrev pub row_items : Vec Measure Global → List Measure
row_items row = row.items

abbrev pub rows : List (Vec Measure Global) → List (List Measure)
rows = map row_items

abbrev pub number_items : Vec ℕ Global → List ℕ
number_items row = row.items

abbrev pub number_rows : List (Vec ℕ Global) → List (List ℕ)
number_rows = map number_items
