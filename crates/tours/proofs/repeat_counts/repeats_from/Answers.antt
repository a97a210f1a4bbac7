use Rattle.std.proofs.Common.{◌-◌, refl, arith}
use Rattle.league.proofs.ForCallers.{sum_without_none, sum_without_more, sum_without_all, lowest_below}
use Rattle.fixtures.specs.Games.{round_count}
use Rattle.tours.proofs.repeat_counts.repeats_from.Goals as goal

pub loop-round-init : goal.loop-round-init
loop-round-init c = sum_without_none _ _ _ _ _ (omega arith) c.into_iter-round-iterator.ensures.into_iter_gives

pub repeats_after-total-requires : goal.repeats_after-total-requires
repeats_after-total-requires c =
    omega (arith, lowest_below (round_count c.args.schedule.now.teams - 1) _ _ _ c.loop-round.invariant.below c.in-Some.ensures.steps)

pub loop-round-preserved : goal.loop-round-preserved
loop-round-preserved c =
    sum_without_more _ _ _ _ _ _ _ _ _ c.loop-round.invariant c.in-Some.ensures.steps c.repeats_after-total.ensures.value
    c.repeats_after-total.ensures.limit

pub returns-clause-value : goal.returns-clause-value
returns-clause-value c = sum_without_all _ _ _ _ _ _ _ c.loop-round.invariant c.in-None.ensures.steps.0 (λ k below. refl)
