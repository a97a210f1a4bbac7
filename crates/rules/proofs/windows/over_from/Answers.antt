use Rattle.std.proofs.Common.{◌<◌, arith, refl, ap, ◌∙◌}
use Rattle.rules.specs.Deviations.{over}
use Rattle.league.proofs.ForCallers.{sum_without_none, sum_without_more, sum_without_all, lowest_below}
use Rattle.rules.proofs.windows.over_from.Goals as goal

pub loop-first-init : goal.loop-first-init
loop-first-init c = sum_without_none _ _ _ _ _ (omega (arith, c.requires.starts, c.into_iter-first-iterator.ensures.into_iter_gives))
    c.into_iter-first-iterator.ensures.into_iter_gives

pub rounds_in_window-requires : goal.rounds_in_window-requires
rounds_in_window-requires c =
    let in_range : c.in-Some.first < c.args.windows = lowest_below _ _ _ _ c.loop-first.invariant.below c.in-Some.ensures.steps in
    omega arith

pub loop-first-preserved : goal.loop-first-preserved
loop-first-preserved c =
    let in_range : c.in-Some.first < c.args.windows = lowest_below _ _ _ _ c.loop-first.invariant.below c.in-Some.ensures.steps in
    sum_without_more _ _ _ _ _ _ _ _ _ c.loop-first.invariant c.in-Some.ensures.steps
    (c.over-total.ensures.value ∙ ap (λ n. over n c.args.most) c.rounds_in_window.ensures.value)
    (omega (arith, c.over-total.ensures.most, c.rounds_in_window.ensures.most))

pub returns-clause-value : goal.returns-clause-value
returns-clause-value c = sum_without_all _ _ _ _ _ _ _ c.loop-first.invariant c.in-None.ensures.steps.0 (λ k below. refl)

pub returns-clause-most : goal.returns-clause-most
returns-clause-most c = omega (arith, c.loop-first.invariant.within, c.requires.season, c.requires.least)
