use Rattle.std.proofs.Common.{[]}
use Rattle.report_json.specs.Labels.{round_text_at}
use Rattle.report_json.proofs.Lists.{part_added}
use Rattle.report_json.proofs.label_values.round_texts_value.Goals as goal

pub loop-round-preserved : goal.loop-round-preserved
loop-round-preserved c = part_added [] _ _ (round_text_at c.args.league.now) c.loop-round.round c.loop-round.invariant
    (rw c.round_text.ensures at c.in_ok-push_text.ensures)
