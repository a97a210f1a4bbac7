use Rattle.std.proofs.Common.{arith}
use Rattle.bounds.proofs.WholeLeague.{bound_of}
use Rattle.bounds.proofs.league_bound.LeagueBounds.of.Goals as goal

pub sum_of-travel-requires-clause-few : goal.sum_of-travel-requires-clause-few
sum_of-travel-requires-clause-few c = rw c.deref.ensures.value c.in_ok-tours.ensures.few

pub returns-clause-travel : goal.returns-clause-travel
returns-clause-travel c =
    bound_of c.args.league.now c.in_ok-tours.tours.items c.sum_of-travel.result c.in_ok-tours.ensures.each
    (omega (arith, rw c.deref.ensures.value at c.sum_of-travel.ensures))
