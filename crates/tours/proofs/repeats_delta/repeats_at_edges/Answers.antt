use Rattle.std.proofs.Common.{arith}
use Rattle.tours.proofs.legs.TwoTotals.{totals_begun, next_in, totals_more, totals_ended}
use Rattle.tours.proofs.repeats_delta.repeats_at_edges.Goals as goal

pub loop-round-init : goal.loop-round-init
loop-round-init c = totals_begun _ _ _ _ _ _ (omega arith) c.into_iter-round-iterator.ensures.into_iter_gives

pub repeats_at_edge-repeats-requires-clause-next : goal.repeats_at_edge-repeats-requires-clause-next
repeats_at_edge-repeats-requires-clause-next c =
    omega (arith, (next_in _ _ _ _ _ _ _ _ _ _ c.loop-round.invariant c.in-Some.ensures.steps).0)

pub loop-round-preserved : goal.loop-round-preserved
loop-round-preserved c =
    totals_more _ _ _ _ _ _ _ _ _ _ _ _ c.loop-round.invariant c.in-Some.ensures.steps c.repeats_at_edge-repeats.ensures.before
    c.repeats_at_edge-repeats.ensures.after c.repeats_at_edge-repeats.ensures.before_limit c.repeats_at_edge-repeats.ensures.after_limit

pub returns : goal.returns
returns c = totals_ended _ _ _ _ _ _ _ _ c.loop-round.invariant c.in-None.ensures.steps.0
