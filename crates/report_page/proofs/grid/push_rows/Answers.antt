use Rattle.report_page.specs.Grid.{grid_row}
use Rattle.report_page.proofs.Pushes.{piece_added}
use Rattle.report_page.proofs.grid.push_rows.Goals as goal

pub loop-team-preserved : goal.loop-team-preserved
loop-team-preserved c = piece_added _ _ _ (grid_row c.args.league.now c.args.schedule.now) c.loop-team.team c.loop-team.invariant
    c.in_ok-push_row.ensures
