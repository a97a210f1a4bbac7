use Rattle.std.proofs.Common.{◌≡◌, take, vec_capacity}
use Rattle.fixture_board.proofs.state.copies.with_room.Given as goal

abbrev pub invariant-loop-item : goal.invariant-loop-item
invariant-loop-item g l = record {
  copied : l.copy.items ≡ take l.item-index l.items;
  capacity : vec_capacity l.copy ≡ l.room;
}
