-- How long the tables are.
use Rattle.std.specs.Prelude.{ℕ, ◌*◌}
use Rattle.sets.specs.Limits.{max_teams}

-- a row for each of the most teams, or of the most games of a trip, with as many entries
abbrev pub table_length : ℕ
table_length = max_teams * max_teams
