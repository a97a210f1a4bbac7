use Rattle.report_page.specs.Page.{tour_row}
use Rattle.report_page.proofs.Pushes.{piece_added}
use Rattle.report_page.proofs.page.push_tours.Goals as goal

pub loop-team-preserved : goal.loop-team-preserved
loop-team-preserved c = piece_added _ _ _ (tour_row c.args.league.now c.args.schedule.now) c.loop-team.team c.loop-team.invariant
    (rw c.travel_of.ensures.value at c.in_ok-push_tour.ensures)
