-- What private functions alone need beside specs/Rows.antt.
use Rattle.std.specs.Prelude.{ℕ, List, [], ◌∷◌, ◌++◌}

-- the numbers of a table, one row after another
abbrev pub joined : List (List ℕ) → List ℕ
joined [] = []
joined (row ∷ table) = row ++ joined table
