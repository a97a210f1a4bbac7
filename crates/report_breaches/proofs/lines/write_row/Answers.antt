use Rattle.std.proofs.Common.{◌≡◌, arith}
use Rattle.byte_streams.proofs.Pieces.{Adds-piece, Stops-in_pieces, Stops-writes}
use Rattle.report_breaches.specs.BreachText.{lines_of}
use Rattle.report_breaches.specs.within.Terms.{breach_in, column_count}
use Rattle.report_breaches.proofs.Rows.{lines_below}
use Rattle.report_breaches.proofs.lines.write_row.Goals as goal

pub loop-column-preserved : goal.loop-column-preserved
loop-column-preserved g c =
    Adds-piece
    (λ k. lines_of c.args.schedule.now c.args.number c.args.body.now (breach_in c.args.schedule.now c.args.body.now c.args.row k))
    c.loop-column.column c.loop-column.invariant c.in_ok-write_breach_in.ensures.ok

pub returns-in_err-write_breach_in : goal.returns-in_err-write_breach_in
returns-in_err-write_breach_in g c =
    rw (lines_below c.args.schedule.now c.args.number c.args.body.now (column_count c.args.schedule.now c.args.body.now c.args.row)
    (breach_in c.args.schedule.now c.args.body.now c.args.row))
    (Stops-writes c.from_residual.ensures.0
    (Stops-in_pieces
    (λ k. lines_of c.args.schedule.now c.args.number c.args.body.now (breach_in c.args.schedule.now c.args.body.now c.args.row k))
    c.loop-column.column _ (rw c.column_count-column-end.ensures at c.loop-column-test.true) c.loop-column.invariant
    c.in_err-write_breach_in.ensures.err))

pub returns : goal.returns
returns g c =
    let whole : c.loop-column.column ≡ column_count c.args.schedule.now c.args.body.now c.args.row =
    omega (arith, c.column_count-column-end.ensures) in
    rw (lines_below c.args.schedule.now c.args.number c.args.body.now (column_count c.args.schedule.now c.args.body.now c.args.row)
    (breach_in c.args.schedule.now c.args.body.now c.args.row))
    (record { ok = rw whole at c.loop-column.invariant; err = tt })
