use Rattle.moves.proofs.move_laws.EachMove.{each-double_round_robin}
use Rattle.moves.proofs.laws.stays_double_round_robin.Goals as goal

pub returns : goal.returns
returns c = each-double_round_robin
