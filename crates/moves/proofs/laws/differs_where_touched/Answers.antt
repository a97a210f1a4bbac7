use Rattle.moves.proofs.move_laws.EachMove.{each-differs}
use Rattle.moves.proofs.laws.differs_where_touched.Goals as goal

pub returns : goal.returns
returns c = each-differs
