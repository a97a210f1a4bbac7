use Rattle.report_page.specs.MovedGames.{moved_row}
use Rattle.report_page.proofs.Pushes.{piece_added}
use Rattle.report_page.proofs.moved_games.push_moved_of.Goals as goal

pub loop-away-preserved : goal.loop-away-preserved
loop-away-preserved c = piece_added _ _ _ (moved_row c.args.league.now c.args.schedule.now c.args.home) c.loop-away.away c.loop-away.invariant
    c.in_ok-push_moved_game.ensures
