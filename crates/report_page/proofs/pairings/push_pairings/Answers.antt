use Rattle.report_page.specs.Pairings.{pairing_at}
use Rattle.report_page.proofs.Pushes.{piece_added}
use Rattle.report_page.proofs.pairings.push_pairings.Goals as goal

pub loop-team-preserved : goal.loop-team-preserved
loop-team-preserved c = piece_added _ _ _ (pairing_at c.args.dress c.args.league.now c.args.schedule.now c.args.round) c.loop-team.team
    c.loop-team.invariant c.in_ok-push_pairing_at.ensures
