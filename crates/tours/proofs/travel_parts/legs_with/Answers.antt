use Rattle.std.proofs.Common.{refl, arith}
use Rattle.league.proofs.ForCallers.{sum_without_none, sum_without_more, sum_without_all, lowest_below}
use Rattle.fixtures.specs.Games.{round_count}
use Rattle.tours.proofs.travel_parts.legs_with.Goals as goal

pub loop-index-init : goal.loop-index-init
loop-index-init c = sum_without_none _ _ _ _ _ (omega arith) c.into_iter-index-iterator.ensures.into_iter_gives

pub legs_of-total-requires-clause-index : goal.legs_of-total-requires-clause-index
legs_of-total-requires-clause-index c =
    omega (arith, lowest_below (round_count c.args.schedule.now.teams) _ _ _ c.loop-index.invariant.below c.in-Some.ensures.steps)

pub loop-index-preserved : goal.loop-index-preserved
loop-index-preserved c =
    sum_without_more _ _ _ _ _ _ _ _ _ c.loop-index.invariant c.in-Some.ensures.steps c.legs_of-total.ensures.value (omega arith)

pub returns-clause-value : goal.returns-clause-value
returns-clause-value c = sum_without_all _ _ _ _ _ _ _ c.loop-index.invariant c.in-None.ensures.steps.0 (λ k below. refl)
