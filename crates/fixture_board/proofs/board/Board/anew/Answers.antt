use Rattle.std.proofs.Common.{rules}
use Rattle.fixture_board.proofs.board.Board.anew.Goals as goal

pub returns : goal.returns
returns c = search rules
