use Rattle.std.proofs.Common.{arith}
use Rattle.tours.proofs.legs.TwoTotals.{totals_begun, next_in, totals_more, totals_ended}
use Rattle.tours.proofs.rounds_delta.legs_of_ordered.Goals as goal

pub loop-team-init : goal.loop-team-init
loop-team-init c = totals_begun _ _ _ _ _ _ (omega arith) c.into_iter-team-iterator.ensures.into_iter_gives

pub changed_legs-legs-requires-clause-team : goal.changed_legs-legs-requires-clause-team
changed_legs-legs-requires-clause-team c =
    (next_in _ _ _ _ _ _ _ _ _ _ c.loop-team.invariant c.in-Some.ensures.steps).0

pub loop-team-preserved : goal.loop-team-preserved
loop-team-preserved c =
    totals_more _ _ _ _ _ _ _ _ _ _ _ _ c.loop-team.invariant c.in-Some.ensures.steps c.changed_legs-legs.ensures.before
    c.changed_legs-legs.ensures.after c.changed_legs-legs.ensures.before_limit c.changed_legs-legs.ensures.after_limit

pub returns : goal.returns
returns c = totals_ended _ _ _ _ _ _ _ _ c.loop-team.invariant c.in-None.ensures.steps.0
