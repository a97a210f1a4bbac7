use Rattle.std.proofs.Common.{◌≡◌, ◌*◌, ◌≤◌}
use Rattle.league.specs.Limits.{max_teams}
use Rattle.league.specs.Starts.{start_round}
use Rattle.league.specs.Sums.{sum_below, count_where}
use Rattle.tours.specs.Moved.{is_moved}
use Rattle.tours.proofs.moved.moved_games.Given as goal

abbrev pub invariant-loop-home : goal.invariant-loop-home
invariant-loop-home l = record {
  value : l.moved ≡ sum_below l.home (λ home. count_where l.schedule.teams (is_moved (start_round l.league) l.schedule home));
  limit : l.moved ≤ l.home * max_teams;
}
