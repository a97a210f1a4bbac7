use Rattle.std.proofs.Common.{◌≡◌, ◌*◌, ◌≤◌}
use Rattle.league.specs.League.{distance}
use Rattle.league.specs.Limits.{max_distance}
use Rattle.league.specs.Sums.{sum_below}
use Rattle.annealing.proofs.walk.distances_from.Given as goal

abbrev pub invariant-loop-b : goal.invariant-loop-b
invariant-loop-b l = record {
  value : l.sum ≡ sum_below l.b (distance l.league l.a);
  most : l.sum ≤ l.b * max_distance;
}
