-- How large leagues, their seasons and their rules may be.
use Rattle.std.specs.Prelude.{ℕ}
-- of teams, rounds and rules
pub use Rattle.sets.specs.Limits.{min_teams, max_teams, max_rounds, max_rules, round_count}

-- the bytes of a team's name
abbrev pub max_name : ℕ
max_name = 40

-- the bytes of a league's name, of a team's short name, and of what a round is called
abbrev pub max_title : ℕ
max_title = 80

abbrev pub max_short_name : ℕ
max_short_name = 6

abbrev pub max_round_text : ℕ
max_round_text = 20

-- no list has more games, each once, of the most teams
abbrev pub max_games : ℕ
max_games = 1600

abbrev pub max_distance : ℕ
max_distance = 1000000

-- of a hard limit, and of a soft rule
abbrev pub max_weight : ℕ
max_weight = 1000000

-- the numbers of a rule
abbrev pub max_count : ℕ
max_count = 10000

-- each deviation of a rule is less
abbrev pub deviation_limit : ℕ
deviation_limit = 10000000

-- the games in a row at home, or away, of a league that doesn't say
abbrev pub default_at_most : ℕ
default_at_most = 3

abbrev pub default_hard_weight : ℕ
default_hard_weight = 100
