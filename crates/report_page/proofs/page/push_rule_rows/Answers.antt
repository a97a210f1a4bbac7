use Rattle.std.proofs.Common.{slice_get}
use Rattle.report_page.specs.Page.{rule_row_at}
use Rattle.report_page.proofs.Pushes.{piece_added}
use Rattle.report_page.proofs.page.push_rule_rows.Goals as goal

pub loop-i-preserved : goal.loop-i-preserved
loop-i-preserved c = piece_added _ _ _
    (λ i. rule_row_at c.args.league.now c.args.schedule.now c.args.broken i (slice_get c.args.league.now.rules i))
    c.loop-i.i c.loop-i.invariant c.in_ok-push_rule.ensures
