use Rattle.moves.proofs.move_laws.EachMove.{each-differs_in_touched}
use Rattle.moves.proofs.laws.differs_in_each_touched.Goals as goal

pub returns : goal.returns
returns c = each-differs_in_touched
