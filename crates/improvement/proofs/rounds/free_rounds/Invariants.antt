use Rattle.std.proofs.Common.{◌≡◌, ◌≤◌, vec_capacity}
use Rattle.fixture_board.specs.History.{games_of}
use Rattle.improvement.specs.within.Rounds.{free_below}
use Rattle.improvement.proofs.rounds.free_rounds.Given as goal

abbrev pub invariant-loop-round : goal.invariant-loop-round
invariant-loop-round l = record {
  room : l.rounds ≤ vec_capacity l.free;
  free : l.free.items ≡ free_below l.board.league (games_of l.board.league l.board.history) l.round;
}
