use Rattle.std.proofs.Common.{◌≡◌, ◌*◌, ◌≤◌}
use Rattle.league.specs.Limits.{max_distance}
use Rattle.league.specs.Sums.{sum_below}
use Rattle.tours.specs.Tours.{leg}
use Rattle.tours.proofs.whole_travel.travel_of.Given as goal

abbrev pub invariant-loop-index : goal.invariant-loop-index
invariant-loop-index l = record {
  value : l.total ≡ sum_below l.index (leg l.league l.schedule l.team);
  limit : l.total ≤ l.index * max_distance;
}
