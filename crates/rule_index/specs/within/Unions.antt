-- The rules that look at one of some teams, or of some rounds.
use Rattle.std.specs.Prelude.{◌≡◌, ℕ, ◌&&◌, List}
use Rattle.league.specs.Limits.{max_teams, max_rounds}
use Rattle.league.specs.Sets.{has}
use Rattle.league.specs.Sums.{any_below}
use Rattle.league.specs.declared.rule.Rule.{Rule}
use Rattle.rule_index.specs.declared.rows.TeamRules.{TeamRules}
use Rattle.rule_index.specs.Alterable.{passes_at}
use Rattle.rule_index.specs.Index.{looks_at_games_of, has_opponent, has_stranger, looks_in_round}

-- the rules of each kind
pub record AreRulesAround (rules : List Rule) (teams : ℕ) (found : TeamRules) : Type 0 where
  pub own : (i : ℕ) → has found.own i ≡ any_below max_teams (λ t. has teams t && passes_at rules (looks_at_games_of t) i)
  pub opponent : (i : ℕ) → has found.opponent i ≡ any_below max_teams (λ t. has teams t && passes_at rules (has_opponent t) i)
  pub stranger : (i : ℕ) → has found.stranger i ≡ any_below max_teams (λ t. has teams t && passes_at rules (has_stranger t) i)

abbrev pub AreRulesWithin : List Rule → ℕ → ℕ → Type 0
AreRulesWithin rules rounds found =
    (i : ℕ) → has found i ≡ any_below max_rounds (λ r. has rounds r && passes_at rules (looks_in_round r) i)
