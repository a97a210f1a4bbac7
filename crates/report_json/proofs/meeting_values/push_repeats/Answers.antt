use Rattle.report_json.specs.Sides.{repeats_after}
use Rattle.report_json.proofs.Lists.{part_added}
use Rattle.report_json.proofs.meeting_values.push_repeats.Goals as goal

pub loop-round-preserved : goal.loop-round-preserved
loop-round-preserved c =
    part_added _ _ _ (repeats_after c.args.schedule.now) c.loop-round.round c.loop-round.invariant
    (c.in_ok-push_repeats_after.ensures)
