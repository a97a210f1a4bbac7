use Rattle.shared_board.proofs.shared.Shared.absorb.Goals as goal

pub returns : goal.returns
returns c = c.merge.ensures.absorbed c.seat.inside.number c.other.inside.number _ _ c.seat.view_is c.other.view_is
