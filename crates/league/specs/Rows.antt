-- A table kept as the numbers of its rows, one row after another.
use Rattle.std.specs.Prelude.{ℕ, zero, suc, List, [], ◌∷◌, take, drop}

-- so many rows of n numbers, cut from a list
unfoldable pub cut : ℕ → ℕ → List ℕ → List (List ℕ)
cut n zero numbers = []
cut n (suc count) numbers = take n numbers ∷ cut n count (drop n numbers)

-- the table of n rows of n numbers
abbrev pub table_of : ℕ → List ℕ → List (List ℕ)
table_of n numbers = cut n n numbers
