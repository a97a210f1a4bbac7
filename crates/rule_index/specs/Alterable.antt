-- The rules whose deviation a change around some main teams in some rounds can alter.
use Rattle.std.specs.Prelude.{ℕ, ◌&&◌, not, Bool, false, List, slice_get}
use Rattle.std.specs.Option.{option_map_or}
use Rattle.league.specs.Sets.{has}
use Rattle.league.specs.declared.rule.Rule.{Rule}
use Rattle.league.specs.declared.rule.RuleBody.{RuleBody}
use Rattle.rules.specs.LooksPast.{looks_past}
use Rattle.rules.specs.Touches.{looks_at_round}

-- whether the rule doesn't look past the main teams, and looks at one of the rounds
unfoldable pub is_alterable : ℕ → ℕ → RuleBody → Bool
is_alterable main rounds body = not (looks_past main body) && looks_at_round body (has rounds)

-- whether there is a rule at an index, and it passes a test
unfoldable pub passes_at : List Rule → (RuleBody → Bool) → ℕ → Bool
passes_at rules test i = option_map_or (λ (rule : Rule). test rule.body) (slice_get rules i) false

abbrev pub is_alterable_at : List Rule → ℕ → ℕ → ℕ → Bool
is_alterable_at rules main rounds i = passes_at rules (is_alterable main rounds) i
