use Rattle.std.proofs.Common.{◌≡◌, ℕ, ◌≤◌, ◌&&◌, not, Bool, true, false, sym, ◌∙◌, ap, ap₂, arith}
use Rattle.league.specs.declared.rule.Rule.{Rule}
use Rattle.costs.specs.Evaluators.{is_at, is_hard}
use Rattle.rule_index.proofs.ForCallers.{IsCollected, collected_none, collected_all, left_out, put_in}
use Rattle.costs.proofs.CountingOrders.{is_first, is_here, is_next, is_last, none_past}
use Rattle.costs.proofs.counting_order.CountingOrder.new.Goals as goal
use Rattle.costs.proofs.counting_order.CountingOrder.new.Goals.{then-is_slow, else-is_slow+then-is_hard, else-is_slow+else-is_hard}

pub loop-i-init : goal.loop-i-init
loop-i-init c = record {
  hard = collected_none _ _ c.empty-first.ensures.members;
  soft = collected_none _ _ c.empty-next.ensures.members;
  slow = collected_none _ _ c.empty-last.ensures.members;
}

pub loop-i-preserved : goal.loop-i-preserved
loop-i-preserved c =
    let here = λ (test : Rule → Bool) (b : Bool) (passes : b ≡ test c.rule-rule.result.now).
    is_here c.args.league.now.rules test c.loop-i.i c.rule-rule.result.now b c.rule-rule.ensures.value passes in
    let kept = λ (test : Rule → Bool) (set : ℕ) (so_far : IsCollected (is_at c.args.league.now.rules test) c.loop-i.i set)
    (fails : false ≡ test c.rule-rule.result.now).
    left_out (is_at c.args.league.now.rules test) c.loop-i.i set so_far (here test false fails) in
    elim c.if-is_slow.branch [
      | then-is_slow w ↦
          let slow = sym w.if-is_slow.true ∙ c.is_slow.ensures in
          rw (w.first-is, w.next-is, w.last-is) (record {
            hard = kept is_first _ c.loop-i.invariant.hard (ap (λ s. not s && is_hard c.rule-rule.result.now.weight) slow);
            soft = kept is_next _ c.loop-i.invariant.soft (ap (λ s. not s && not (is_hard c.rule-rule.result.now.weight)) slow);
            slow = put_in _ _ _ c.loop-i.invariant.slow _ (here is_last true slow) w.with-last.ensures.members;
          })
      | else-is_slow+then-is_hard w ↦
          let quick = sym w.if-is_slow.false ∙ c.is_slow.ensures in
          let hard = sym w.if-is_hard.true ∙ w.is_hard.ensures in
          rw (w.first-is, w.next-is, w.last-is) (record {
            hard = put_in _ _ _ c.loop-i.invariant.hard _ (here is_first true (ap₂ (λ s h. not s && h) quick hard)) w.with-first.ensures.members;
            soft = kept is_next _ c.loop-i.invariant.soft (ap₂ (λ s h. not s && not h) quick hard);
            slow = kept is_last _ c.loop-i.invariant.slow quick;
          })
      | else-is_slow+else-is_hard w ↦
          let quick = sym w.if-is_slow.false ∙ c.is_slow.ensures in
          let soft = sym w.if-is_hard.false ∙ w.is_hard.ensures in
          rw (w.first-is, w.next-is, w.last-is) (record {
            hard = kept is_first _ c.loop-i.invariant.hard (ap₂ (λ s h. not s && h) quick soft);
            soft = put_in _ _ _ c.loop-i.invariant.soft _ (here is_next true (ap₂ (λ s h. not s && not h) quick soft)) w.with-next.ensures.members;
            slow = kept is_last _ c.loop-i.invariant.slow quick;
          })
    ]

pub returns : goal.returns
returns c =
    let past : (test : Rule → Bool) (k : ℕ) → c.loop-i.i ≤ k → is_at c.args.league.now.rules test k ≡ false =
    λ test k beyond. none_past c.args.league.now.rules test k (omega (arith, c.rule_count-i-end.ensures.value, beyond)) in
    record {
      hard = collected_all _ _ _ c.loop-i.invariant.hard (past is_first);
      soft = collected_all _ _ _ c.loop-i.invariant.soft (past is_next);
      slow = collected_all _ _ _ c.loop-i.invariant.slow (past is_last);
    }
