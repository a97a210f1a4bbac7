use Rattle.byte_streams.specs.Pieces.{pieces_below}
use Rattle.byte_streams.specs.Writing.{Adds}
use Rattle.report_text.specs.within.CostText.{half_line}
use Rattle.report_text.proofs.cost_text.write_halves_of.Given as goal

abbrev pub invariant-loop-low : goal.invariant-loop-low
invariant-loop-low g l = Adds g.W.Sink.held g.W.Sink.tally l.initial.out l.out (pieces_below (half_line l.schedule l.high) l.low)
