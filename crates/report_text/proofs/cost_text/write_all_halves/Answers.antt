use Rattle.byte_streams.proofs.Pieces.{Adds-piece, Stops-in_pieces, Stops-writes}
use Rattle.report_text.specs.within.CostText.{half_lines}
use Rattle.report_text.proofs.cost_text.write_all_halves.Goals as goal

pub loop-high-preserved : goal.loop-high-preserved
loop-high-preserved g c =
    Adds-piece (half_lines c.args.schedule.now) c.loop-high.high c.loop-high.invariant c.in_ok-write_halves_of.ensures.ok

pub returns-in_err-write_halves_of : goal.returns-in_err-write_halves_of
returns-in_err-write_halves_of g c =
    Stops-writes c.from_residual.ensures.0
    (Stops-in_pieces (half_lines c.args.schedule.now) c.loop-high.high _ (rw c.teams-high-end.ensures.number at c.loop-high-test.true)
    c.loop-high.invariant c.in_err-write_halves_of.ensures.err)
