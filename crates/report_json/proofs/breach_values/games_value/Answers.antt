use Rattle.std.proofs.Common.{[]}
use Rattle.report_json.specs.Rules.{named_in}
use Rattle.report_json.proofs.Lists.{part_added}
use Rattle.report_json.proofs.breach_values.games_value.Goals as goal

pub loop-round-preserved : goal.loop-round-preserved
loop-round-preserved c =
    part_added [] _ _ (named_in c.args.schedule.now c.args.body.now c.args.place) c.loop-round.round c.loop-round.invariant
    (c.in_ok-push_named_in.ensures)
