use Rattle.report_json.specs.Sides.{repeat_at}
use Rattle.report_json.proofs.Lists.{part_added}
use Rattle.report_json.proofs.meeting_values.push_repeats_after.Goals as goal

pub loop-team-preserved : goal.loop-team-preserved
loop-team-preserved c =
    part_added _ _ _ (repeat_at c.args.schedule.now c.args.round) c.loop-team.team c.loop-team.invariant
    (c.in_ok-push_repeat.ensures)
