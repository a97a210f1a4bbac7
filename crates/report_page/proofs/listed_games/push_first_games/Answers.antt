use Rattle.std.proofs.Common.{slice_get}
use Rattle.report_page.specs.RuleWords.{game_at}
use Rattle.report_page.proofs.Pushes.{piece_added}
use Rattle.report_page.proofs.listed_games.push_first_games.Goals as goal

pub loop-i-preserved : goal.loop-i-preserved
loop-i-preserved c = piece_added _ _ _ (λ i. game_at c.args.league.now i (slice_get c.args.games.now i)) c.loop-i.i
    c.loop-i.invariant (rw c.at.ensures c.in_ok-push_game.ensures)
