-- What an index of a league's rules has: for each team and each round the set of the rules that look at it.
use Rattle.std.specs.Prelude.{◌≡◌, ℕ, not, Bool, false, List, Option, Some, None, length, slice_get}
use Rattle.std.specs.Option.{option_map_or}
use Rattle.league.specs.Limits.{max_teams, max_rounds}
use Rattle.league.specs.Sets.{has, with_number}
use Rattle.league.specs.declared.rule.Rule.{Rule}
use Rattle.league.specs.declared.rule.RuleBody.{RuleBody}
use Rattle.league.specs.declared.rule.RuleBody.TheVariants.{Ca1, Ca2, Ca3, Ca4, Ga1, Br1, Br2, Se1, Fa2}
use Rattle.rules.specs.LooksPast.{looks_past}
use Rattle.rules.specs.Touches.{looks_at_round}
use Rattle.rule_index.specs.declared.rows.TeamRules.{TeamRules}
use Rattle.rule_index.specs.Alterable.{passes_at}

pub record IndexRows : Type 0 where
  pub teams : List TeamRules
  pub rounds : List ℕ

-- the set of one number
abbrev pub alone : ℕ → ℕ
alone k = with_number 0 k

-- whether the rule looks at games of the team
unfoldable pub looks_at_games_of : ℕ → RuleBody → Bool
looks_at_games_of team body = not (looks_past (alone team) body)

-- the opponents against which the rule counts games, if its class has some
abbrev pub opponents_of : RuleBody → Option ℕ
opponents_of (Ca1 teams side slots most) = None
opponents_of (Ca2 teams1 side teams2 slots most) = Some teams2
opponents_of (Ca3 teams1 side teams2 window most) = Some teams2
opponents_of (Ca4 teams1 side teams2 slots each most) = Some teams2
opponents_of (Ga1 games slots least most) = None
opponents_of (Br1 teams side slots most) = None
opponents_of (Br2 teams slots most) = None
opponents_of (Se1 teams least) = None
opponents_of (Fa2 teams slots most) = None

-- whether the team is one of them
unfoldable pub has_opponent : ℕ → RuleBody → Bool
has_opponent team body = option_map_or (λ opponents. has opponents team) (opponents_of body) false

-- whether there are some, and the team is none of them
unfoldable pub has_stranger : ℕ → RuleBody → Bool
has_stranger team body = option_map_or (λ opponents. not (has opponents team)) (opponents_of body) false

-- whether the rule looks at the round
unfoldable pub looks_in_round : ℕ → RuleBody → Bool
looks_in_round round body = looks_at_round body (has (alone round))

-- the rules that look at a team

pub record IsTeamRow (rules : List Rule) (team : ℕ) (row : TeamRules) : Type 0 where
  pub own : (i : ℕ) → has row.own i ≡ passes_at rules (looks_at_games_of team) i
  pub opponent : (i : ℕ) → has row.opponent i ≡ passes_at rules (has_opponent team) i
  pub stranger : (i : ℕ) → has row.stranger i ≡ passes_at rules (has_stranger team) i

abbrev pub AreTeamRows : List Rule → List TeamRules → Type 0
AreTeamRows rules rows = (team : ℕ) (row : TeamRules) → slice_get rows team ≡ Some row → IsTeamRow rules team row

-- and those that look at a round

pub record IsRoundRow (rules : List Rule) (round row : ℕ) : Type 0 where
  pub members : (i : ℕ) → has row i ≡ passes_at rules (looks_in_round round) i

abbrev pub AreRoundRows : List Rule → List ℕ → Type 0
AreRoundRows rules rows = (round row : ℕ) → slice_get rows round ≡ Some row → IsRoundRow rules round row

-- the rows of each of the most teams and of the most rounds
pub record IsIndexOf (rules : List Rule) (index : IndexRows) : Type 0 where
  pub team_count : length index.teams ≡ max_teams
  pub round_count : length index.rounds ≡ max_rounds
  pub teams : AreTeamRows rules index.teams
  pub rounds : AreRoundRows rules index.rounds
