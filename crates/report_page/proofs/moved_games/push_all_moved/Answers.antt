use Rattle.report_page.specs.MovedGames.{moved_rows}
use Rattle.report_page.proofs.Pushes.{piece_added}
use Rattle.report_page.proofs.moved_games.push_all_moved.Goals as goal

pub loop-home-preserved : goal.loop-home-preserved
loop-home-preserved c = piece_added _ _ _ (moved_rows c.args.league.now c.args.schedule.now) c.loop-home.home c.loop-home.invariant
    c.in_ok-push_moved_of.ensures
