use Rattle.std.proofs.Common.{rules}
use Rattle.shared_board.proofs.Turns.{leave_keeps}
use Rattle.shared_board.proofs.shared.Shared.leave.Goals as goal

pub store-requires : goal.store-requires
store-requires c = (search rules, search rules, leave_keeps _ _ _ c.requires.turn.0 c.requires.turn.1 c.requires.board)
