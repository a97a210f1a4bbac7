-- Texts made of a piece for each number.
use Rattle.std.specs.Prelude.{ℕ, zero, suc, List, [], ◌++◌}

-- the pieces of the numbers below a bound, one after another
abbrev pub pieces_below : (ℕ → List ℕ) → ℕ → List ℕ
pieces_below piece zero = []
pieces_below piece (suc n) = pieces_below piece n ++ piece n
