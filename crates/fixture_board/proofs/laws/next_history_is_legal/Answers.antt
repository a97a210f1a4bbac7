use Rattle.fixture_board.proofs.Next.{IsLegal-next}
use Rattle.fixture_board.proofs.laws.next_history_is_legal.Goals as goal

pub returns : goal.returns
returns c = IsLegal-next
