use Rattle.std.proofs.Common.{◌≡◌, ◌*◌, ◌≤◌}
use Rattle.league.specs.League.{teams, distance}
use Rattle.league.specs.Limits.{max_teams, max_distance}
use Rattle.league.specs.Sums.{sum_below}
use Rattle.annealing.proofs.walk.distance_sum.Given as goal

abbrev pub invariant-loop-a : goal.invariant-loop-a
invariant-loop-a l = record {
  value : l.sum ≡ sum_below l.a (λ a. sum_below (teams l.league) (distance l.league a));
  most : l.sum ≤ l.a * (max_teams * max_distance);
}
