use Rattle.std.proofs.Common.{rules}
use Rattle.fixture_board.proofs.board.Board.version.Goals as goal

pub returns-clause-length : goal.returns-clause-length
returns-clause-length c = search rules
