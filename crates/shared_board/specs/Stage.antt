-- Where a seat is in its turn.
use Rattle.std.specs.Prelude.{ℕ, List}
use Rattle.fixture_board.specs.declared.change.Entry.{Entry}

-- A seat that holds the turn knows the history. With `counts` it has also read how many numbers are given out.
-- With `owes` it has made the first history into the second, and has still to post the best total.
pub data Stage : Type 0 where
  away : Stage
  holds : List Entry → Stage
  counts : List Entry → Stage
  owes : List Entry → List Entry → Stage

-- what a seat had held and seen that is now one with another
pub record Former : Type 0 where
  pub held : List ℕ
  pub seen : List Entry
