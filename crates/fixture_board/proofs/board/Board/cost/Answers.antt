use Rattle.std.proofs.Common.{rules}
use Rattle.fixture_board.proofs.board.Board.cost.Goals as goal

pub returns-clause-value : goal.returns-clause-value
returns-clause-value c = search rules
