use Rattle.fixture_board.proofs.Next.{TellsOf-reply}
use Rattle.fixture_board.proofs.laws.answer_tells_history.Goals as goal

pub returns : goal.returns
returns c = TellsOf-reply
