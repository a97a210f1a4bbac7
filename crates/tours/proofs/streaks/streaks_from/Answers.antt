use Rattle.std.proofs.Common.{refl, arith}
use Rattle.league.proofs.ForCallers.{sum_without_none, sum_without_more, sum_without_all, lowest_below}
use Rattle.tours.proofs.streaks.streaks_from.Goals as goal

pub loop-team-init : goal.loop-team-init
loop-team-init c = sum_without_none _ _ _ _ _ (omega arith) c.into_iter-team-iterator.ensures.into_iter_gives

pub streaks_of_team-total-requires-clause-team : goal.streaks_of_team-total-requires-clause-team
streaks_of_team-total-requires-clause-team c = lowest_below _ _ _ _ c.loop-team.invariant.below c.in-Some.ensures.steps

pub loop-team-preserved : goal.loop-team-preserved
loop-team-preserved c =
    sum_without_more _ _ _ _ _ _ _ _ _ c.loop-team.invariant c.in-Some.ensures.steps c.streaks_of_team-total.ensures.value
    c.streaks_of_team-total.ensures.limit

pub returns-clause-value : goal.returns-clause-value
returns-clause-value c = sum_without_all _ _ _ _ _ _ _ c.loop-team.invariant c.in-None.ensures.steps.0 (λ k below. refl)
