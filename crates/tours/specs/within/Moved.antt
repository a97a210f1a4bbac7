-- What private functions alone need beside specs/Moved.antt.
use Rattle.std.specs.Prelude.{ℕ, ◌==◌, not, if◌then◌else◌}
use Rattle.fixtures.specs.Games.{cell_round}
use Rattle.fixtures.specs.declared.game.Cell.{Cell}

-- 1 if the start has the game of a team with this opponent, at home or away, in another round than this
abbrev pub cell_moved : (ℕ → ℕ → ℕ) → ℕ → Cell → ℕ → ℕ
cell_moved start t c r = if not (r == cell_round start t c) then 1 else 0

-- the same of a game at home, and 0 of one away
abbrev pub home_moved : (ℕ → ℕ → ℕ) → ℕ → Cell → ℕ → ℕ
home_moved start t c r = if c.home then cell_moved start t c r else 0
