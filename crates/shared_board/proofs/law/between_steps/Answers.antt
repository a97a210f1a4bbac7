use Rattle.shared_board.proofs.Betweens.{between}
use Rattle.shared_board.proofs.law.between_steps.Goals as goal

pub returns : goal.returns
returns c = between
