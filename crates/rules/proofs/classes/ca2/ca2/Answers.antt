use Rattle.std.proofs.Common.{arith, refl}
use Rattle.rules.specs.Deviations.{deviation}
use Rattle.league.proofs.ForCallers.{sum_without_none, sum_without_more, sum_without_all, lowest_below}
use Rattle.rules.proofs.classes.ca2.ca2.Goals as goal

pub loop-team-init : goal.loop-team-init
loop-team-init c = sum_without_none _ _ _ _ _ (omega arith) c.into_iter-team-iterator.ensures.into_iter_gives

pub games_of_team-requires-clause-team : goal.games_of_team-requires-clause-team
games_of_team-requires-clause-team c = lowest_below _ _ _ _ c.loop-team.invariant.below c.in-Some.ensures.steps

pub loop-team-preserved : goal.loop-team-preserved
loop-team-preserved c = sum_without_more _ _ _ _ _ _ _ _ _ c.loop-team.invariant c.in-Some.ensures.steps
    (rw c.games_of_team.ensures.value at c.over-total.ensures.value) (omega arith)

pub returns : goal.returns
unfolding deviation
returns c = sum_without_all _ _ _ _ _ _ _ c.loop-team.invariant c.in-None.ensures.steps.0 (λ k below. refl)
