use Rattle.report_page.specs.Grid.{round_head}
use Rattle.report_page.proofs.Pushes.{piece_added}
use Rattle.report_page.proofs.grid.push_round_heads.Goals as goal

pub loop-round-preserved : goal.loop-round-preserved
loop-round-preserved c = piece_added _ _ _ round_head c.loop-round.round c.loop-round.invariant c.in_ok-push_pieces.ensures
