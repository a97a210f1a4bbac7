use Rattle.std.proofs.Common.{refl, arith}
use Rattle.league.proofs.ForCallers.{sum_without_none, sum_without_more, sum_without_all, lowest_below}
use Rattle.rules.proofs.classes.ca3.over_by_teams.Goals as goal

pub loop-team-init : goal.loop-team-init
loop-team-init c = sum_without_none _ _ _ _ _ (omega arith) c.into_iter-team-iterator.ensures.into_iter_gives

pub over_from_starts-total-requires-clause-team : goal.over_from_starts-total-requires-clause-team
over_from_starts-total-requires-clause-team c = lowest_below _ _ _ _ c.loop-team.invariant.below c.in-Some.ensures.steps

pub loop-team-preserved : goal.loop-team-preserved
loop-team-preserved c =
    sum_without_more _ _ _ _ _ _ _ _ _ c.loop-team.invariant c.in-Some.ensures.steps c.over_from_starts-total.ensures.value
    c.over_from_starts-total.ensures.most

pub returns : goal.returns
returns c = sum_without_all _ _ _ _ _ _ _ c.loop-team.invariant c.in-None.ensures.steps.0 (λ k below. refl)
