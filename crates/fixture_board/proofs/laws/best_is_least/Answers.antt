use Rattle.fixture_board.proofs.Least.{best_prefix-is_best}
use Rattle.fixture_board.proofs.laws.best_is_least.Goals as goal

pub returns : goal.returns
returns c = best_prefix-is_best
