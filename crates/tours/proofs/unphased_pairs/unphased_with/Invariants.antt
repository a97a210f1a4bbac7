use Rattle.std.proofs.Common.{◌≡◌, ◌*◌, ◌≤◌, ◌&&◌, ◌||◌}
use Rattle.std.specs.Prelude.{if◌then◌else◌}
use Rattle.league.specs.Limits.{max_teams}
use Rattle.league.specs.Sets.{has}
use Rattle.league.specs.Sums.{sum_of_pairs}
use Rattle.tours.specs.Phased.{is_unphased}
use Rattle.tours.proofs.unphased_pairs.unphased_with.Given as goal

abbrev pub invariant-loop-team : goal.invariant-loop-team
invariant-loop-team l = record {
  value : l.total ≡ sum_of_pairs l.team (λ i j. if (has l.teams i || has l.teams j) && is_unphased l.schedule i j then 1 else 0);
  limit : l.total ≤ l.team * max_teams;
}
