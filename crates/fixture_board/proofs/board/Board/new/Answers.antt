use Rattle.std.proofs.Common.{rules}
use Rattle.fixture_board.proofs.board.Board.new.Goals as goal

pub returns-then-room-gt-MAX_ROOM-clause-range : goal.returns-then-room-gt-MAX_ROOM-clause-range
returns-then-room-gt-MAX_ROOM-clause-range c = search rules
