use Rattle.std.proofs.Common.{rules}
use Rattle.shared_board.proofs.Ends.{some_given}
use Rattle.shared_board.proofs.shared.Shared.close.Goals as goal

pub bring_out-board-requires-clause-below : goal.bring_out-board-requires-clause-below
bring_out-board-requires-clause-below g c = (some_given _ _ _ _ _ c.seat.invariant, c.seat.invariant.below)

pub returns : goal.returns
returns g c = search rules
