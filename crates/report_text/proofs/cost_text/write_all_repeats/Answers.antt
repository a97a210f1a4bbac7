use Rattle.byte_streams.proofs.Pieces.{Adds-piece, Stops-in_pieces, Stops-writes}
use Rattle.report_text.specs.within.CostText.{repeat_lines}
use Rattle.report_text.proofs.cost_text.write_all_repeats.Goals as goal

pub loop-round-preserved : goal.loop-round-preserved
loop-round-preserved g c =
    Adds-piece (repeat_lines c.args.schedule.now) c.loop-round.round c.loop-round.invariant c.in_ok-write_repeats_after.ensures.ok

pub returns-in_err-write_repeats_after : goal.returns-in_err-write_repeats_after
returns-in_err-write_repeats_after g c =
    Stops-writes c.from_residual.ensures.0
    (Stops-in_pieces (repeat_lines c.args.schedule.now) c.loop-round.round _
    (rw c.rounds-round-end.ensures.number at c.loop-round-test.true) c.loop-round.invariant c.in_err-write_repeats_after.ensures.err)
