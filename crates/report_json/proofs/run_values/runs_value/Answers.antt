use Rattle.std.proofs.Common.{[]}
use Rattle.report_json.specs.Sides.{runs_of}
use Rattle.report_json.proofs.Lists.{part_added}
use Rattle.report_json.proofs.run_values.runs_value.Goals as goal

pub loop-team-preserved : goal.loop-team-preserved
loop-team-preserved c =
    part_added [] _ _ (runs_of c.args.schedule.now c.args.at_most) c.loop-team.team c.loop-team.invariant
    (c.in_ok-push_runs_of.ensures)
