use Rattle.std.proofs.Common.{rules}
use Rattle.shared_board.proofs.Turns.{post_keeps}
use Rattle.shared_board.proofs.shared.Shared.post.Goals as goal

pub fetch_min-requires : goal.fetch_min-requires
fetch_min-requires c = (search rules, search rules, post_keeps _ _ _ _ c.requires.turn.0 c.requires.turn.1 c.requires.least)
