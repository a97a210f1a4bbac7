use Rattle.std.proofs.Common.{arith}
use Rattle.tours.proofs.legs.TwoTotals.{totals_begun, next_in, totals_more, totals_ended}
use Rattle.tours.proofs.repeats_delta.repeats_of_ordered.Goals as goal

pub loop-team-init : goal.loop-team-init
loop-team-init c = totals_begun _ _ _ _ _ _ (omega arith) c.into_iter-team-iterator.ensures.into_iter_gives

pub repeats_of_team-repeats-requires-clause-team : goal.repeats_of_team-repeats-requires-clause-team
repeats_of_team-repeats-requires-clause-team c =
    (next_in _ _ _ _ _ _ _ _ _ _ c.loop-team.invariant c.in-Some.ensures.steps).0

pub loop-team-preserved : goal.loop-team-preserved
loop-team-preserved c =
    totals_more _ _ _ _ _ _ _ _ _ _ _ _ c.loop-team.invariant c.in-Some.ensures.steps c.repeats_of_team-repeats.ensures.before
    c.repeats_of_team-repeats.ensures.after c.repeats_of_team-repeats.ensures.before_limit c.repeats_of_team-repeats.ensures.after_limit

pub returns : goal.returns
returns c = totals_ended _ _ _ _ _ _ _ _ c.loop-team.invariant c.in-None.ensures.steps.0
