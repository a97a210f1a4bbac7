use Rattle.std.proofs.Common.{◌≤◌}
use Rattle.league.specs.Limits.{max_distance}
use Rattle.bounds.proofs.team_bound.farthest_of.Given as goal

abbrev pub invariant-loop-team : goal.invariant-loop-team
invariant-loop-team l = l.farthest ≤ max_distance
