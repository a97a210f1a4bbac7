use Rattle.byte_streams.specs.Pieces.{pieces_below}
use Rattle.byte_streams.specs.Writing.{Adds}
use Rattle.report_text.specs.within.CostText.{repeat_lines}
use Rattle.report_text.proofs.cost_text.write_all_repeats.Given as goal

abbrev pub invariant-loop-round : goal.invariant-loop-round
invariant-loop-round g l = Adds g.W.Sink.held g.W.Sink.tally l.initial.out l.out (pieces_below (repeat_lines l.schedule) l.round)
