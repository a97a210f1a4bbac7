use Rattle.std.proofs.Common.{◌<◌}
use Rattle.sets.specs.Limits.{max_teams}
use Rattle.bounds.proofs.tour_legs.push_trip.Given as goal

abbrev pub invariant-loop-g : goal.invariant-loop-g
invariant-loop-g l = l.to < max_teams
