use Rattle.std.proofs.Common.{rules}
use Rattle.shared_board.proofs.Turns.{draw_keeps}
use Rattle.shared_board.proofs.shared.Shared.draw.Goals as goal

pub store-requires : goal.store-requires
store-requires c = (
  search rules,
  search rules,
  draw_keeps _ _ _ _ c.requires.own.0 c.requires.turn.0 c.requires.turn.1 c.requires.own.1 c.requires.next.0 c.requires.next.1,
)
