use Rattle.byte_streams.proofs.Pieces.{Adds-piece, Stops-in_pieces, Stops-writes}
use Rattle.report_text.specs.within.CostText.{half_line}
use Rattle.report_text.proofs.cost_text.write_halves_of.Goals as goal

pub loop-low-preserved : goal.loop-low-preserved
loop-low-preserved g c =
    Adds-piece (half_line c.args.schedule.now c.args.high) c.loop-low.low c.loop-low.invariant c.in_ok-write_half.ensures.ok

pub returns-in_err-write_half : goal.returns-in_err-write_half
returns-in_err-write_half g c =
    Stops-writes c.from_residual.ensures.0
    (Stops-in_pieces (half_line c.args.schedule.now c.args.high) c.loop-low.low _ c.loop-low-test.true c.loop-low.invariant
    c.in_err-write_half.ensures.err)
