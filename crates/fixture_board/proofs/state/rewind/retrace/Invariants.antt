use Rattle.std.proofs.Common.{◌≡◌, ◌≤◌, take, vec_len, vec_capacity}
use Rattle.fixture_board.specs.History.{effective}
use Rattle.fixture_board.proofs.state.rewind.retrace.Given as goal

abbrev pub invariant-loop-entry : goal.invariant-loop-entry
invariant-loop-entry l = record {
  items : l.changes.items ≡ effective (take l.entry-index l.history);
  capacity : vec_capacity l.changes ≡ vec_capacity l.fn.changes;
  few : vec_len l.changes ≤ l.entry-index;
}
