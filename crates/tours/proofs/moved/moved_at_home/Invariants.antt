use Rattle.std.proofs.Common.{◌≡◌, ◌≤◌}
use Rattle.league.specs.Starts.{start_round}
use Rattle.league.specs.Sums.{count_where}
use Rattle.tours.specs.Moved.{is_moved}
use Rattle.tours.proofs.moved.moved_at_home.Given as goal

abbrev pub invariant-loop-away : goal.invariant-loop-away
invariant-loop-away l = record {
  value : l.moved ≡ count_where l.away (is_moved (start_round l.league) l.schedule l.home);
  limit : l.moved ≤ l.away;
}
