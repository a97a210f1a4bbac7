use Rattle.fixture_board.proofs.Keeps.{best_is}
use Rattle.fixture_board.proofs.board.Board.best.Goals as goal

pub returns-clause-value : goal.returns-clause-value
returns-clause-value c = rw (← c.self.view_is) (best_is _ _ _ _ c.self.invariant.1.leader)
