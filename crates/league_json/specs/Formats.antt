-- The formats of a league's text.
use Rattle.std.specs.Prelude.{ℕ}

-- the latest
abbrev pub max_format : ℕ
max_format = 3
