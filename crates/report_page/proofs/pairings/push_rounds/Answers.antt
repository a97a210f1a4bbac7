use Rattle.report_page.specs.Pairings.{round_block}
use Rattle.report_page.proofs.Pushes.{piece_added}
use Rattle.report_page.proofs.pairings.push_rounds.Goals as goal

pub loop-round-preserved : goal.loop-round-preserved
loop-round-preserved c = piece_added _ _ _ (round_block c.args.dress c.args.league.now c.args.schedule.now) c.loop-round.round
    c.loop-round.invariant c.in_ok-push_round.ensures
