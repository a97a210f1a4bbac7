use Rattle.std.proofs.Common.{arith}
use Rattle.tours.proofs.legs.TwoTotals.{totals_begun, next_in, totals_more, totals_ended}
use Rattle.tours.proofs.teams_delta.exchange.TeamExchange.legs_of_visits.Goals as goal

pub loop-round-init : goal.loop-round-init
loop-round-init c = totals_begun _ _ _ _ _ _ (omega arith) c.into_iter-round-iterator.ensures.into_iter_gives

pub legs_of_visit-legs-requires-clause-round : goal.legs_of_visit-legs-requires-clause-round
legs_of_visit-legs-requires-clause-round c =
    (next_in _ _ _ _ _ _ _ _ _ _ c.loop-round.invariant c.in-Some.ensures.steps).0

pub legs_of_visit-legs-requires-clause-home : goal.legs_of_visit-legs-requires-clause-home
legs_of_visit-legs-requires-clause-home c =
    c.requires.home _ (next_in _ _ _ _ _ _ _ _ _ _ c.loop-round.invariant c.in-Some.ensures.steps).1

pub legs_of_visit-legs-requires-clause-in_set : goal.legs_of_visit-legs-requires-clause-in_set
legs_of_visit-legs-requires-clause-in_set c =
    c.requires.in_set _ (next_in _ _ _ _ _ _ _ _ _ _ c.loop-round.invariant c.in-Some.ensures.steps).1

pub loop-round-preserved : goal.loop-round-preserved
loop-round-preserved c =
    totals_more _ _ _ _ _ _ _ _ _ _ _ _ c.loop-round.invariant c.in-Some.ensures.steps c.legs_of_visit-legs.ensures.before
    c.legs_of_visit-legs.ensures.after c.legs_of_visit-legs.ensures.before_limit c.legs_of_visit-legs.ensures.after_limit

pub returns : goal.returns
returns c = totals_ended _ _ _ _ _ _ _ _ c.loop-round.invariant c.in-None.ensures.steps.0
