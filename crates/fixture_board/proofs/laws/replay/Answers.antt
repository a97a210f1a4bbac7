use Rattle.fixture_board.proofs.Script.{replayed}
use Rattle.fixture_board.proofs.laws.replay.Goals as goal

pub returns : goal.returns
returns c = λ league room h is. replayed league room h is
