use Rattle.report_text.specs.Runs.{ended_streak, is_over}
use Rattle.report_json.specs.Sides.{run_at}
use Rattle.report_json.proofs.Lists.{part_added}
use Rattle.report_json.proofs.run_values.push_runs_of.Goals as goal

pub loop-round-preserved : goal.loop-round-preserved
loop-round-preserved c =
    part_added _ _ _
    (λ round.
    run_at c.args.schedule.now c.args.at_most c.args.team round
    (ended_streak (is_over c.args.schedule.now c.args.at_most c.args.team) round))
    c.loop-round.round c.loop-round.invariant (rw c.windows_ended-windows.ensures.windows at c.in_ok-push_run.ensures)
