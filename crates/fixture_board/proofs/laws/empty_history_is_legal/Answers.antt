use Rattle.fixture_board.proofs.OneMore.{IsLegal-none}
use Rattle.fixture_board.proofs.laws.empty_history_is_legal.Goals as goal

pub returns : goal.returns
returns c = IsLegal-none
