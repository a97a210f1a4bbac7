use Rattle.std.proofs.Common.{[]}
use Rattle.report_json.specs.Rules.{rule_at}
use Rattle.std.specs.Prelude.{slice_get}
use Rattle.report_json.proofs.Lists.{part_added}
use Rattle.report_json.proofs.rule_values.rules_value.Goals as goal

pub loop-i-preserved : goal.loop-i-preserved
loop-i-preserved c =
    part_added [] _ _ (λ i. rule_at c.args.schedule.now i (slice_get c.args.league.now.rules i)) c.loop-i.i c.loop-i.invariant
    (rw c.rule.ensures.value (rw c.in_ok-rule_value.ensures at c.in_ok-push_value.ensures))
