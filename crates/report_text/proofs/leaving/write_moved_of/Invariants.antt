use Rattle.byte_streams.specs.Pieces.{pieces_below}
use Rattle.byte_streams.specs.Writing.{Adds}
use Rattle.report_text.specs.within.CostText.{moved_line}
use Rattle.report_text.proofs.leaving.write_moved_of.Given as goal

abbrev pub invariant-loop-away : goal.invariant-loop-away
invariant-loop-away g l = Adds g.W.Sink.held g.W.Sink.tally l.initial.out l.out (pieces_below (moved_line l.league l.schedule l.home) l.away)
