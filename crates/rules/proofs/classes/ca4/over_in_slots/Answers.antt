use Rattle.std.proofs.Common.{arith, refl}
use Rattle.league.proofs.ForCallers.{sum_without_none, sum_without_more, sum_without_all, lowest_below}
use Rattle.rules.proofs.classes.ca4.over_in_slots.Goals as goal

pub loop-round-init : goal.loop-round-init
loop-round-init c = sum_without_none _ _ _ _ _ (omega arith) c.into_iter-round-iterator.ensures.into_iter_gives

pub games_in_round-requires-clause-round : goal.games_in_round-requires-clause-round
games_in_round-requires-clause-round c = lowest_below _ _ _ _ c.loop-round.invariant.below c.in-Some.ensures.steps

pub loop-round-preserved : goal.loop-round-preserved
loop-round-preserved c = sum_without_more _ _ _ _ _ _ _ _ _ c.loop-round.invariant c.in-Some.ensures.steps
    (rw c.games_in_round.ensures.value at c.over-total.ensures.value) (omega arith)

pub returns : goal.returns
returns c = sum_without_all _ _ _ _ _ _ _ c.loop-round.invariant c.in-None.ensures.steps.0 (λ k below. refl)
