use Rattle.byte_streams.proofs.Pieces.{Adds-piece, Stops-in_pieces, Stops-writes}
use Rattle.report_breaches.specs.BreachText.{named_cell}
use Rattle.report_breaches.proofs.made_of.write_column.Goals as goal

pub loop-team-preserved : goal.loop-team-preserved
loop-team-preserved g c =
    Adds-piece (λ team. named_cell c.args.schedule.now c.args.body.now c.args.place team c.args.round) c.loop-team.team c.loop-team.invariant
    c.in_ok-write_cell.ensures.ok

pub returns-in_err-write_cell : goal.returns-in_err-write_cell
returns-in_err-write_cell g c =
    Stops-writes c.from_residual.ensures.0
    (Stops-in_pieces (λ team. named_cell c.args.schedule.now c.args.body.now c.args.place team c.args.round) c.loop-team.team _
    (rw c.teams-team-end.ensures.number at c.loop-team-test.true) c.loop-team.invariant c.in_err-write_cell.ensures.err)
