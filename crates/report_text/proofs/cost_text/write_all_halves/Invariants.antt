use Rattle.byte_streams.specs.Pieces.{pieces_below}
use Rattle.byte_streams.specs.Writing.{Adds}
use Rattle.report_text.specs.within.CostText.{half_lines}
use Rattle.report_text.proofs.cost_text.write_all_halves.Given as goal

abbrev pub invariant-loop-high : goal.invariant-loop-high
invariant-loop-high g l = Adds g.W.Sink.held g.W.Sink.tally l.initial.out l.out (pieces_below (half_lines l.schedule) l.high)
