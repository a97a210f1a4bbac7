-- What the crates above cite: that a change alters nothing of the deviation from the other rules, and sets that a loop over rules makes.
pub use Rattle.rule_index.proofs.Collected.{IsCollected, collected_none, collected_all, left_out, put_in}
use Rattle.std.proofs.Common.{◌≡◌, ℕ, ◌&&◌, not, false, List, Some, slice_get, sym, ◌∙◌, ap, inl, inr}
use Rattle.std.specs.Option.{option_map_or}
use Rattle.std.proofs.lemmas.Bool.{and_cases, and_left, cond-false, not-false}
use Rattle.league.specs.Sets.{has}
use Rattle.league.specs.RuleLimits.{IsBodyFor}
use Rattle.league.specs.declared.rule.Rule.{Rule}
use Rattle.league.specs.declared.rule.RuleBody.{RuleBody}
use Rattle.fixtures.specs.Games.{Games, IsDoubleRoundRobin}
use Rattle.rules.specs.Laws.{SidesAreMain}
use Rattle.rules.specs.LooksPast.{looks_past}
use Rattle.rules.specs.Parts.{changing_terms, tells_apart, can_alter, deviation_part}
use Rattle.rules.specs.Touches.{looks_at_round}
use Rattle.rules.proofs.ForCallers.{looked_past_part}
use Rattle.rule_index.specs.Alterable.{is_alterable, is_alterable_at, passes_at}

pub unalterable_part : (g : Games) (main rounds sides : ℕ) (body : RuleBody) → IsDoubleRoundRobin g → IsBodyFor g.teams body →
    SidesAreMain main sides → is_alterable main rounds body ≡ false → deviation_part g main rounds sides body ≡ 0
unfolding is_alterable deviation_part can_alter
unalterable_part g main rounds sides body rr is sides_in out =
    elim (and_cases (not (looks_past main body)) (looks_at_round body (has rounds)) out) [
      | inl past ↦ looked_past_part g main rounds sides body rr is sides_in (not-false (looks_past main body) past)
      | inr elsewhere ↦
          cond-false {A = ℕ} (looks_at_round body (has rounds) && tells_apart body (has rounds)) (changing_terms g main rounds sides body) 0
          (and_left (looks_at_round body (has rounds)) (tells_apart body (has rounds)) elsewhere)
    ]

pub nothing_else_altered : (g : Games) (rules : List Rule) (i : ℕ) (rule : Rule) (main rounds sides : ℕ) → IsDoubleRoundRobin g →
    slice_get rules i ≡ Some rule → IsBodyFor g.teams rule.body → SidesAreMain main sides →
    is_alterable_at rules main rounds i ≡ false → deviation_part g main rounds sides rule.body ≡ 0
unfolding passes_at
nothing_else_altered g rules i rule main rounds sides rr at is sides_in out =
    unalterable_part g main rounds sides rule.body rr is sides_in
    (sym (ap (λ o. option_map_or (λ (r : Rule). is_alterable main rounds r.body) o false) at) ∙ out)
