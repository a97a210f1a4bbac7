use Rattle.std.proofs.Common.{rules}
use Rattle.shared_board.proofs.Turns.{commit_keeps}
use Rattle.shared_board.proofs.shared.Shared.commit.Goals as goal

pub store-requires : goal.store-requires
store-requires c = (
  search rules,
  search rules,
  commit_keeps _ _ _ _ c.requires.turn.0 c.requires.turn.1 c.requires.added c.requires.legal c.requires.version,
)
