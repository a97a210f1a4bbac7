-- A league, without where it lies in memory.
use Rattle.std.specs.Prelude.{ℕ, ◌≤◌, Bool, List, [], length, slice_index_or, IsTrue}
use Rattle.std.specs.List.{list_all, AllByRecursion}
use Rattle.league.specs.declared.rule.Rule.{Rule}
use Rattle.league.specs.Rows.{table_of}
use Rattle.league.specs.Names.{is_team_name}
use Rattle.league.specs.Labels.{LabelData, AreLabelsFor}
use Rattle.league.specs.Checks.{distance_of, IsDistanceTable}
use Rattle.league.specs.Limits.{max_rounds, max_weight, max_rules}
use Rattle.league.specs.Origins.{OriginData, IsOriginFor}
use Rattle.league.specs.RuleLimits.{IsRuleFor}

pub record LeagueData : Type 0 where
  pub names : List (List ℕ)
  pub distances : List (List ℕ)
  pub at_most : ℕ
  pub hard_weight : ℕ
  pub rules : List Rule
  pub origin : OriginData
  -- the two games of each pair of teams belong into different halves of the season
  pub phased : Bool
  -- they may stand in rounds one after the other
  pub free_repeats : Bool
  pub labels : LabelData

abbrev pub league_data : List (List ℕ) → List (List ℕ) → ℕ → ℕ → List Rule → OriginData → Bool → Bool → LabelData → LeagueData
league_data names distances at_most hard_weight rules origin phased free_repeats labels = record {
  names = names;
  distances = distances;
  at_most = at_most;
  hard_weight = hard_weight;
  rules = rules;
  origin = origin;
  phased = phased;
  free_repeats = free_repeats;
  labels = labels;
}

-- the same of a table kept as its numbers, row by row
abbrev pub league_of_numbers : List (List ℕ) → List ℕ → ℕ → ℕ → List Rule → OriginData → Bool → Bool → LabelData → LeagueData
league_of_numbers names numbers at_most hard_weight rules origin phased free_repeats labels =
    league_data names (table_of (length names) numbers) at_most hard_weight rules origin phased free_repeats labels

-- how many teams there are
abbrev pub teams : LeagueData → ℕ
teams l = length l.names

-- the bytes of a team's name
abbrev pub name_of : LeagueData → ℕ → List ℕ
name_of l team = slice_index_or l.names team []

-- the distance between the homes of two teams
abbrev pub distance : LeagueData → ℕ → ℕ → ℕ
distance l a b = distance_of l.distances a b

-- what is true of every league
pub record IsLeague (l : LeagueData) : Type 0 where
  pub table : IsDistanceTable (length l.names) l.distances
  pub at_most_least : 1 ≤ l.at_most
  pub at_most_most : l.at_most ≤ max_rounds
  pub weight_least : 1 ≤ l.hard_weight
  pub weight_most : l.hard_weight ≤ max_weight
  pub names : IsTrue (list_all is_team_name l.names)
  pub rule_count : length l.rules ≤ max_rules
  pub rules : AllByRecursion (IsRuleFor (length l.names)) l.rules
  pub origin : IsOriginFor (length l.names) l.origin
  pub labels : AreLabelsFor (length l.names) l.labels
