use Rattle.report_json.specs.Rules.{named_at}
use Rattle.report_json.proofs.Lists.{part_added}
use Rattle.report_json.proofs.breach_values.push_named_in.Goals as goal

pub loop-team-preserved : goal.loop-team-preserved
loop-team-preserved c =
    part_added _ _ _ (named_at c.args.schedule.now c.args.body.now c.args.at.0 c.args.at.1) c.loop-team.team c.loop-team.invariant
    (c.in_ok-push_named_at.ensures)
