use Rattle.std.proofs.Common.{arith}
use Rattle.tours.proofs.legs.TwoTotals.{totals_begun, next_in, totals_more, totals_ended}
use Rattle.tours.proofs.teams_delta.exchange.TeamExchange.legs_at_edges.Goals as goal

pub loop-round-init : goal.loop-round-init
loop-round-init c = totals_begun _ _ _ _ _ _ (omega arith) c.into_iter-round-iterator.ensures.into_iter_gives

pub legs_at_edge-legs-requires-clause-round : goal.legs_at_edge-legs-requires-clause-round
legs_at_edge-legs-requires-clause-round c =
    (next_in _ _ _ _ _ _ _ _ _ _ c.loop-round.invariant c.in-Some.ensures.steps).0

pub legs_at_edge-legs-requires-clause-edge : goal.legs_at_edge-legs-requires-clause-edge
legs_at_edge-legs-requires-clause-edge c =
    c.requires.edges _ (next_in _ _ _ _ _ _ _ _ _ _ c.loop-round.invariant c.in-Some.ensures.steps).1

pub loop-round-preserved : goal.loop-round-preserved
loop-round-preserved c =
    totals_more _ _ _ _ _ _ _ _ _ _ _ _ c.loop-round.invariant c.in-Some.ensures.steps c.legs_at_edge-legs.ensures.before
    c.legs_at_edge-legs.ensures.after c.legs_at_edge-legs.ensures.before_limit c.legs_at_edge-legs.ensures.after_limit

pub returns : goal.returns
returns c = totals_ended _ _ _ _ _ _ _ _ c.loop-round.invariant c.in-None.ensures.steps.0
