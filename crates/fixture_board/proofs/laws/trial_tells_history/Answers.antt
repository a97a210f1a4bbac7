use Rattle.fixture_board.proofs.Trials.{TellsOfTrial-cost}
use Rattle.fixture_board.proofs.laws.trial_tells_history.Goals as goal

pub returns : goal.returns
returns c = TellsOfTrial-cost
