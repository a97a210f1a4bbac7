use Rattle.std.proofs.Common.{◌≡◌, ◌≤◌, vec_len, vec_capacity}
use Rattle.draws.specs.Draws.{stream_of_generator}
use Rattle.annealing.specs.Walks.{total_at, walk_after}
use Rattle.annealing.proofs.Walks.{walk_at}
use Rattle.annealing.proofs.walk.changes_on_walk.Given as goal

abbrev pub invariant-loop-step : goal.invariant-loop-step
invariant-loop-step l = record {
  league : l.board.league ≡ l.fn.league;
  room : l.board.room ≡ 1000;
  total : l.total ≡ total_at l.board.league l.board.history;
  few : vec_len l.changes ≤ l._step;
  reserved : vec_capacity l.changes ≡ 1000;
  walk : walk_at l.board.history (stream_of_generator l.generator) l.changes.items ≡ walk_after l.fn.league l._step;
}
