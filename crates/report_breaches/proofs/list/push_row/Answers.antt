use Rattle.report_breaches.specs.within.Terms.{breach_in}
use Rattle.report_breaches.proofs.Rows.{breaches_added}
use Rattle.report_breaches.proofs.list.push_row.Goals as goal

pub loop-column-preserved : goal.loop-column-preserved
loop-column-preserved c =
    breaches_added _ _ _ (breach_in c.args.schedule.now c.args.body.now c.args.row) c.loop-column.column c.loop-column.invariant
    c.in_ok-push_breach_in.ensures
