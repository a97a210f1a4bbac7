use Rattle.byte_streams.proofs.Pieces.{Adds-piece, Stops-in_pieces, Stops-writes}
use Rattle.report_breaches.specs.BreachText.{named_cell}
use Rattle.report_breaches.proofs.made_of.write_row.Goals as goal

pub loop-round-preserved : goal.loop-round-preserved
loop-round-preserved g c =
    Adds-piece (named_cell c.args.schedule.now c.args.body.now c.args.place c.args.team) c.loop-round.round c.loop-round.invariant
    c.in_ok-write_cell.ensures.ok

pub returns-in_err-write_cell : goal.returns-in_err-write_cell
returns-in_err-write_cell g c =
    Stops-writes c.from_residual.ensures.0
    (Stops-in_pieces (named_cell c.args.schedule.now c.args.body.now c.args.place c.args.team) c.loop-round.round _
    (rw c.rounds-round-end.ensures.number at c.loop-round-test.true) c.loop-round.invariant c.in_err-write_cell.ensures.err)
