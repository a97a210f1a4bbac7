use Rattle.std.proofs.Common.{◌≡◌, ℕ, ◌&&◌, Bool, sym, ◌∙◌, ap, ap₂, subst}
use Rattle.league.specs.Sets.{has}
use Rattle.league.specs.declared.rule.Rule.{Rule}
use Rattle.fixtures.specs.TouchedCells.{TouchedCells}
use Rattle.rule_index.specs.Alterable.{is_alterable, is_alterable_at}
use Rattle.costs.specs.Evaluators.{IsEvaluatorOf, is_at}
use Rattle.costs.proofs.CountingOrders.{in_one, is_first, is_next, is_last}
use Rattle.costs.proofs.Walked.{flipping_main}
use Rattle.costs.proofs.scope.Scope.of.Goals as goal

pub returns-clause-rules : goal.returns-clause-rules
returns-clause-rules c l of_these =
    let is = subst (IsEvaluatorOf l.rules) (sym c.evaluator.view_is) of_these in
    let members = c.alterable-rules.ensures.members l.rules is.index in
    let below = c.alterable-rules.ensures.below l.rules is.index in
    let one = λ (i : ℕ). in_one l.rules (is_alterable c.main-main.result.teams c.main-main.result.rounds) i in
    let some : (test : Rule → Bool) (i : ℕ) (set among : ℕ) → has set i ≡ (has c.alterable-rules.result i && has among i) →
    has among i ≡ is_at l.rules test i → has set i ≡ (is_alterable_at l.rules c.main-main.result.teams c.main-main.result.rounds i && is_at l.rules test i) =
    λ test i set among common is_among. common ∙ ap₂ (λ a b. a && b) (members i) is_among in
    let first : (i : ℕ) → has c.intersection.result i ≡ (is_alterable_at l.rules c.main-main.result.teams c.main-main.result.rounds i && is_at l.rules is_first i) =
    λ i. some is_first i _ _ (c.intersection.ensures.members i) (is.order.hard i) in
    let next : (i : ℕ) → has c.intersection-2.result i ≡ (is_alterable_at l.rules c.main-main.result.teams c.main-main.result.rounds i && is_at l.rules is_next i) =
    λ i. some is_next i _ _ (c.intersection-2.ensures.members i) (is.order.soft i) in
    let last : (i : ℕ) → has c.intersection-3.result i ≡ (is_alterable_at l.rules c.main-main.result.teams c.main-main.result.rounds i && is_at l.rules is_last i) =
    λ i. some is_last i _ _ (c.intersection-3.ensures.members i) (is.order.slow i) in
    record {
      sides = λ t flips. ap (λ (cells : TouchedCells). has cells.teams t) c.main-main.ensures ∙
          flipping_main c.args.schedule.now c.args.attempt.now.exchange.now t (sym (c.flipping.ensures t) ∙ flips);
      below = below;
      rules = members;
      first_below = c.intersection.ensures.below _ below;
      next_below = c.intersection-2.ensures.below _ below;
      last_below = c.intersection-3.ensures.below _ below;
      each = λ i. rw (members i, first i, next i, last i) (one i);
    }
