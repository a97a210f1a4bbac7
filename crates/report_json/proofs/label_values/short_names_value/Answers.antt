use Rattle.std.proofs.Common.{[]}
use Rattle.report_json.specs.Labels.{short_name_at}
use Rattle.report_json.proofs.Lists.{part_added}
use Rattle.report_json.proofs.label_values.short_names_value.Goals as goal

pub loop-team-preserved : goal.loop-team-preserved
loop-team-preserved c = part_added [] _ _ (short_name_at c.args.league.now) c.loop-team.team c.loop-team.invariant
    (rw c.short_name.ensures at c.in_ok-push_text.ensures)
