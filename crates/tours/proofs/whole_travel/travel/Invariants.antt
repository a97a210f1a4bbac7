use Rattle.std.proofs.Common.{◌≡◌, ◌+◌, ◌*◌, ◌≤◌}
use Rattle.league.specs.Limits.{max_rounds, max_distance}
use Rattle.league.specs.Sums.{sum_below}
use Rattle.tours.specs.Tours.{travel_of}
use Rattle.tours.proofs.whole_travel.travel.Given as goal

abbrev pub invariant-loop-team : goal.invariant-loop-team
invariant-loop-team l = record {
  value : l.total ≡ sum_below l.team (travel_of l.league l.schedule);
  limit : l.total ≤ l.team * ((max_rounds + 1) * max_distance);
}
