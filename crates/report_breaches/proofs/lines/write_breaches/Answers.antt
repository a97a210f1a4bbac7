use Rattle.std.proofs.Common.{◌≡◌, arith}
use Rattle.byte_streams.proofs.Pieces.{Adds-piece, Stops-in_pieces, Stops-writes}
use Rattle.report_breaches.specs.BreachText.{breaches_text, lines_of}
use Rattle.report_breaches.specs.within.Terms.{breaches_in_row, row_count}
use Rattle.report_breaches.proofs.Rows.{in_rows, lines_below}
use Rattle.report_breaches.proofs.lines.write_breaches.Goals as goal

pub loop-row-preserved : goal.loop-row-preserved
loop-row-preserved g c =
    Adds-piece
    (λ k. lines_of c.args.schedule.now c.args.number c.args.rule.now.body (breaches_in_row c.args.schedule.now c.args.rule.now.body k))
    c.loop-row.row c.loop-row.invariant c.in_ok-write_row.ensures.ok

pub returns-in_err-write_row : goal.returns-in_err-write_row
unfolding breaches_text
returns-in_err-write_row g c =
    rw (in_rows c.args.schedule.now c.args.rule.now.body)
    (rw (lines_below c.args.schedule.now c.args.number c.args.rule.now.body (row_count c.args.schedule.now c.args.rule.now.body)
    (breaches_in_row c.args.schedule.now c.args.rule.now.body))
    (Stops-writes c.from_residual.ensures.0
    (Stops-in_pieces
    (λ k. lines_of c.args.schedule.now c.args.number c.args.rule.now.body (breaches_in_row c.args.schedule.now c.args.rule.now.body k))
    c.loop-row.row _ (rw c.row_count-row-end.ensures.value at c.loop-row-test.true) c.loop-row.invariant
    c.in_err-write_row.ensures.err)))

pub returns : goal.returns
unfolding breaches_text
returns g c =
    let whole : c.loop-row.row ≡ row_count c.args.schedule.now c.args.rule.now.body =
    omega (arith, c.row_count-row-end.ensures.value) in
    rw (in_rows c.args.schedule.now c.args.rule.now.body)
    (rw (lines_below c.args.schedule.now c.args.number c.args.rule.now.body (row_count c.args.schedule.now c.args.rule.now.body)
    (breaches_in_row c.args.schedule.now c.args.rule.now.body))
    (record { ok = rw whole at c.loop-row.invariant; err = tt }))
