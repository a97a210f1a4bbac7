use Rattle.report_json.specs.Sides.{half_at}
use Rattle.report_json.proofs.Lists.{part_added}
use Rattle.report_json.proofs.meeting_values.push_halves_of.Goals as goal

pub loop-low-preserved : goal.loop-low-preserved
loop-low-preserved c =
    part_added _ _ _ (half_at c.args.schedule.now c.args.high) c.loop-low.low c.loop-low.invariant
    (c.in_ok-push_half.ensures)
