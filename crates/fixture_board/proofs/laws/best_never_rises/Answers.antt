use Rattle.fixture_board.proofs.Next.{least_of-falls}
use Rattle.fixture_board.proofs.laws.best_never_rises.Goals as goal

pub returns : goal.returns
returns c = least_of-falls
