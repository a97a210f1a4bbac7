use Rattle.fixture_board.proofs.Trials.{IsLegal-trial}
use Rattle.fixture_board.proofs.laws.trial_is_legal.Goals as goal

pub returns : goal.returns
returns c = IsLegal-trial
