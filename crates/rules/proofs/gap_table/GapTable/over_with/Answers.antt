use Rattle.std.proofs.Common.{◌-◌, arith, refl, ◌∙◌, ap}
use Rattle.league.proofs.ForCallers.{sum_without_none, sum_without_more, sum_without_all, lowest_below}
use Rattle.rules.proofs.gap_table.GapTable.over_with.Goals as goal

pub loop-other-init : goal.loop-other-init
loop-other-init c = sum_without_none _ _ _ _ _ (omega arith) c.into_iter-other-iterator.ensures.into_iter_gives

pub gap-requires-clause-lower : goal.gap-requires-clause-lower
gap-requires-clause-lower c = lowest_below _ _ _ _ c.loop-other.invariant.below c.in-Some.ensures.steps

pub loop-other-preserved : goal.loop-other-preserved
loop-other-preserved c =
    sum_without_more _ _ _ _ _ _ _ _ _ c.loop-other.invariant c.in-Some.ensures.steps
    (c.from-total.ensures ∙ c.saturating_sub.ensures ∙ ap (λ n. n - c.args.most) (c.from-gap.ensures ∙ c.gap.ensures))
    (omega (arith, c.from-total.ensures, c.saturating_sub.ensures, c.from-gap.ensures, c.gap.type_inv))

pub returns-clause-value : goal.returns-clause-value
returns-clause-value c = sum_without_all _ _ _ _ _ _ _ c.loop-other.invariant c.in-None.ensures.steps.0 (λ k below. refl)
