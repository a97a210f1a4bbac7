-- How many teams, rounds and rules there are at most.
use Rattle.std.specs.Prelude.{ℕ, ◌-◌, ◌*◌}

abbrev pub min_teams : ℕ
min_teams = 4

abbrev pub max_teams : ℕ
max_teams = 40

-- the rounds of the most teams
abbrev pub max_rounds : ℕ
max_rounds = 78

-- how many rounds n teams play: each meets each other twice
abbrev pub round_count : ℕ → ℕ
round_count n = 2 * (n - 1)

-- of a league
abbrev pub max_rules : ℕ
max_rules = 256
