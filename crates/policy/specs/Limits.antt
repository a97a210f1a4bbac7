-- How far a search may go.
use Rattle.std.specs.Prelude.{ℕ}

-- the most steps in all
abbrev pub max_effort : ℕ
max_effort = 1000000000000
