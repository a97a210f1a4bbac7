use Rattle.std.proofs.Common.{◌≡◌, [], arith}
use Rattle.report_breaches.specs.within.Terms.{breaches_in_row, row_count}
use Rattle.report_breaches.proofs.Rows.{breaches_added, in_rows}
use Rattle.report_breaches.proofs.list.breaches_of.Goals as goal

pub loop-row-preserved : goal.loop-row-preserved
loop-row-preserved c =
    breaches_added [] _ _ (breaches_in_row c.args.schedule.now c.args.rule.now.body) c.loop-row.row c.loop-row.invariant
    c.in_ok-push_row.ensures

pub returns : goal.returns
returns c =
    let whole : c.loop-row.row ≡ row_count c.args.schedule.now c.args.rule.now.body =
    omega (arith, c.row_count-row-end.ensures.value) in
    rw (in_rows c.args.schedule.now c.args.rule.now.body) (rw whole at c.loop-row.invariant)
