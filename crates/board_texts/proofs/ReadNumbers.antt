-- The numbers of a line, read word by word.
use Rattle.std.proofs.Common.{ℕ, List, ◌++◌, Option, Some, None}

-- the numbers that were read, before those of the other words
abbrev pub before : List ℕ → Option (List ℕ) → Option (List ℕ)
before read (Some left) = Some (read ++ left)
before read None = None
