use Rattle.std.proofs.Common.{◌<◌, ◌-◌, arith, refl, ◌∙◌, ap}
use Rattle.league.specs.Limits.{max_teams}
use Rattle.league.proofs.ForCallers.{sum_without_none, sum_without_more, sum_without_all, lowest_below}
use Rattle.rules.proofs.home_table.HomeTable.over_with.Goals as goal

pub loop-other-init : goal.loop-other-init
loop-other-init c = sum_without_none _ _ _ _ _ (omega arith) c.into_iter-other-iterator.ensures.into_iter_gives

pub bounds-self-from-in-loop-other : goal.bounds-self-from-in-loop-other
bounds-self-from-in-loop-other c =
    let in_table : c.in-Some.other < max_teams = lowest_below _ _ _ _ c.loop-other.invariant.below c.in-Some.ensures.steps in
    omega (arith, in_table, c.from-in-loop-other.ensures)

pub loop-other-preserved : goal.loop-other-preserved
loop-other-preserved c =
    sum_without_more _ _ _ _ _ _ _ _ _ c.loop-other.invariant c.in-Some.ensures.steps
    (c.from-total.ensures ∙ c.saturating_sub.ensures ∙
    ap (λ n. n - c.args.most)
    (c.into-apart.ensures ∙ (rw (c.from-in-loop-other.ensures, c.from.ensures) at c.worst_apart.ensures)))
    (omega (arith, c.from-total.ensures, c.saturating_sub.ensures, c.into-apart.ensures, c.worst_apart.type_inv))

pub returns-clause-value : goal.returns-clause-value
returns-clause-value c = sum_without_all _ _ _ _ _ _ _ c.loop-other.invariant c.in-None.ensures.steps.0 (λ k below. refl)
