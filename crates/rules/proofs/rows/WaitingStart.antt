-- A start that waits for the next one, to be counted with it.
use Rattle.std.proofs.Common.{ℕ, Option, Some, None}

-- a start's term, if one waits
abbrev pub of_waiting : Option ℕ → (ℕ → ℕ) → ℕ
of_waiting None f = 0
of_waiting (Some first) f = f first
