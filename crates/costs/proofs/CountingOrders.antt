-- The order in which rules are counted: each is counted first, next or last, and none is counted twice.
use Rattle.std.proofs.Common.{◌≡◌, ℕ, ◌&&◌, not, Bool, true, false, List, Option, Some, None, slice_get, length, ◌≤◌, refl, sym, ◌∙◌, ap}
use Rattle.std.proofs.lemmas.Bool.{false≢true}
use Rattle.std.proofs.lemmas.Option.{slice_get_past}
use Rattle.std.specs.Option.{option_map_or}
use Rattle.league.specs.declared.rule.Rule.{Rule}
use Rattle.league.specs.declared.rule.RuleBody.{RuleBody}
use Rattle.rule_index.specs.Alterable.{passes_at}
use Rattle.costs.specs.Evaluators.{is_at, is_hard, is_slow}
use Rattle.costs.specs.within.CostParts.{IsInOne}

-- the tests of the three sets
abbrev pub is_first : Rule → Bool
is_first rule = not (is_slow rule.body) && is_hard rule.weight

abbrev pub is_next : Rule → Bool
is_next rule = not (is_slow rule.body) && not (is_hard rule.weight)

abbrev pub is_last : Rule → Bool
is_last rule = is_slow rule.body

pub is_here : (rules : List Rule) (test : Rule → Bool) (i : ℕ) (rule : Rule) (b : Bool) → slice_get rules i ≡ Some rule → b ≡ test rule →
    b ≡ is_at rules test i
unfolding is_at
is_here rules test i rule b at passes = passes ∙ sym (ap (λ o. option_map_or test o false) at)

pub none_past : (rules : List Rule) (test : Rule → Bool) (k : ℕ) → length rules ≤ k → is_at rules test k ≡ false
unfolding is_at
none_past rules test k past = ap (λ o. option_map_or test o false) (slice_get_past rules k past)

pub in_one : (rules : List Rule) (test : RuleBody → Bool) (i : ℕ) → IsInOne (passes_at rules test i)
    (passes_at rules test i && is_at rules is_first i) (passes_at rules test i && is_at rules is_next i) (passes_at rules test i && is_at rules is_last i)
unfolding passes_at is_at
in_one rules test i = at (slice_get rules i)
  where
    each : (all slow hard : Bool) → IsInOne all (all && (not slow && hard)) (all && (not slow && not hard)) (all && slow)
    each false slow hard = record { one = refl; first_apart = λ e. refl; next_apart = λ e. refl }
    each true true hard = record { one = refl; first_apart = λ e. absurd (false≢true e); next_apart = λ e. absurd (false≢true e) }
    each true false true = record { one = refl; first_apart = λ e. refl; next_apart = λ e. refl }
    each true false false = record { one = refl; first_apart = λ e. absurd (false≢true e); next_apart = λ e. refl }

    passes : (Rule → Bool) → Option Rule → Bool
    passes of o = option_map_or of o false

    at : (o : Option Rule) → IsInOne (passes (λ rule. test rule.body) o) (passes (λ rule. test rule.body) o && passes is_first o)
        (passes (λ rule. test rule.body) o && passes is_next o) (passes (λ rule. test rule.body) o && passes is_last o)
    at None = record { one = refl; first_apart = λ e. refl; next_apart = λ e. refl }
    at (Some rule) = each (test rule.body) (is_slow rule.body) (is_hard rule.weight)
