use Rattle.std.proofs.Common.{rules}
use Rattle.shared_board.proofs.Turns.{quit_keeps}
use Rattle.shared_board.proofs.shared.Shared.quit.Goals as goal

pub store-requires : goal.store-requires
store-requires c = (search rules, search rules, quit_keeps _ _ _ c.requires.turn.0 c.requires.turn.1 c.requires.board)
