use Rattle.std.proofs.Common.{◌≡◌, ◌+◌, ◌&&◌, ◌≤◌}
use Rattle.std.specs.Prelude.{if◌then◌else◌}
use Rattle.league.specs.Sums.{sum_of_pairs}
use Rattle.fixtures.specs.Games.{meets}
use Rattle.tours.proofs.repeat_counts.repeats_after.Given as goal

abbrev pub invariant-loop-team : goal.invariant-loop-team
invariant-loop-team l = record {
  value : l.total ≡ sum_of_pairs l.team (λ low high.
      if meets l.schedule high low l.round && meets l.schedule high low (l.round + 1) then 1 else 0);
  limit : l.total ≤ l.team;
}
