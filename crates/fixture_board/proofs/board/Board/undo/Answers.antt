use Rattle.std.proofs.Common.{rules}
use Rattle.fixture_board.proofs.board.Board.undo.Goals as goal

pub returns-clause-reply : goal.returns-clause-reply
returns-clause-reply c = search rules

pub returns-clause-history : goal.returns-clause-history
returns-clause-history c = search rules
