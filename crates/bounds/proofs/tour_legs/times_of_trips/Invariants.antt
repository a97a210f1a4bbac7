use Rattle.std.proofs.Common.{◌<◌}
use Rattle.bounds.proofs.tour_legs.times_of_trips.Given as goal

abbrev pub invariant-loop-all : goal.invariant-loop-all
invariant-loop-all l = l.all < l.traveller.teams

abbrev pub decreases-loop-all : goal.decreases-loop-all
decreases-loop-all l = l.all
