-- What the vectors of a league's parts hold, without where it lies in memory.
use Rattle.std.specs.Prelude.{ℕ, List, map, String, string_bytes, Vec}
use Rattle.std.specs.declared.alloc.Global.{Global}

abbrev pub texts : List (String Global) → List (List ℕ)
texts = map string_bytes

abbrev pub row_items : Vec ℕ Global → List ℕ
row_items row = row.items

abbrev pub rows : List (Vec ℕ Global) → List (List ℕ)
rows = map row_items
