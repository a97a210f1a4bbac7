use Rattle.report_json.specs.Sides.{halves_of}
use Rattle.report_json.proofs.Lists.{part_added}
use Rattle.report_json.proofs.meeting_values.push_halves.Goals as goal

pub loop-high-preserved : goal.loop-high-preserved
loop-high-preserved c =
    part_added _ _ _ (halves_of c.args.schedule.now) c.loop-high.high c.loop-high.invariant
    (c.in_ok-push_halves_of.ensures)
