use Rattle.moves.proofs.move_laws.EachMove.{each-its_own_inverse}
use Rattle.moves.proofs.laws.moves_back.Goals as goal

pub returns : goal.returns
returns c = each-its_own_inverse
