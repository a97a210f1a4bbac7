use Rattle.std.proofs.Common.{rules}
use Rattle.fixture_board.proofs.board.Board.room.Goals as goal

pub returns : goal.returns
returns c = search rules
