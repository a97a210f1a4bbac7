-- A number after a text.
use Rattle.std.specs.Prelude.{ℕ, List, ◌++◌, codes, decimal}

-- within a line and at the end of one
abbrev pub counted : List ℕ → ℕ → List ℕ
counted text n = text ++ decimal n

abbrev pub numbered : List ℕ → ℕ → List ℕ
numbered text n = counted text n ++ codes "\n"
