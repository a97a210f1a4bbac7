use Rattle.std.proofs.Common.{codes}
use Rattle.byte_streams.specs.Pieces.{pieces_below}
use Rattle.report_page.specs.MovedGames.{moved_head, moved_rows}
use Rattle.report_page.proofs.Pushes.{added_between}
use Rattle.report_page.proofs.moved_games.push_moved_table.Goals as goal

pub returns : goal.returns
returns c =
    added_between c.push_pieces-2.result c.args.page.now.items c.push_pieces.new.page.items c.push_all_moved.new.page.items
    c.push_pieces-2.new.page.items
    moved_head (pieces_below (moved_rows c.args.league.now c.args.schedule.now) c.args.schedule.now.teams) (codes "</table>")
    c.in_ok-push_pieces.ensures c.in_ok-push_all_moved.ensures c.push_pieces-2.ensures
