use Rattle.std.proofs.Common.{◌≡◌, ◌≤◌}
use Rattle.fixture_board.specs.Laws.{least_of}
use Rattle.climber.proofs.alone.climb.Given as goal

abbrev pub invariant-loop : goal.invariant-loop
invariant-loop l = record {
  league : l.board.league ≡ l.initial.board.league;
  best : least_of l.board.league l.board.history ≤ least_of l.initial.board.league l.initial.board.history;
}
