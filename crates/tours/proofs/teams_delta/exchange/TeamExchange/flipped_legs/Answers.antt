use Rattle.std.proofs.Common.{arith}
use Rattle.tours.proofs.legs.TwoTotals.{totals_begun, next_in, totals_more, totals_ended}
use Rattle.tours.proofs.teams_delta.exchange.TeamExchange.flipped_legs.Goals as goal

pub loop-round-init : goal.loop-round-init
loop-round-init c = totals_begun _ _ _ _ _ _ (omega arith) c.into_iter-round-iterator.ensures.into_iter_gives

pub flipped_leg-legs-requires-clause-flip : goal.flipped_leg-legs-requires-clause-flip
flipped_leg-legs-requires-clause-flip c =
    c.requires.flipping _ (next_in _ _ _ _ _ _ _ _ _ _ c.loop-round.invariant c.in-Some.ensures.steps).1

pub loop-round-preserved : goal.loop-round-preserved
loop-round-preserved c =
    totals_more _ _ _ _ _ _ _ _ _ _ _ _ c.loop-round.invariant c.in-Some.ensures.steps c.flipped_leg-legs.ensures.before
    c.flipped_leg-legs.ensures.after c.flipped_leg-legs.ensures.before_limit c.flipped_leg-legs.ensures.after_limit

pub returns : goal.returns
returns c = totals_ended _ _ _ _ _ _ _ _ c.loop-round.invariant c.in-None.ensures.steps.0
