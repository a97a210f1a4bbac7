use Rattle.std.proofs.Common.{rules}
use Rattle.shared_board.proofs.Turns.{count_keeps}
use Rattle.shared_board.proofs.shared.Shared.count.Goals as goal

pub load-requires : goal.load-requires
load-requires c = (search rules, search rules, count_keeps _ _ _ c.requires.turn.0 c.requires.turn.1)
