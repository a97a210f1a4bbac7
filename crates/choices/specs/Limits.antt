-- The most that may be asked for.
use Rattle.std.specs.Prelude.{ℕ}

-- the greatest room of a board
abbrev pub max_room : ℕ
max_room = 1048576
