use Rattle.byte_streams.specs.Pieces.{pieces_below}
use Rattle.byte_streams.specs.Writing.{Adds}
use Rattle.report_text.specs.within.CostText.{moved_lines}
use Rattle.report_text.proofs.leaving.write_all_moved.Given as goal

abbrev pub invariant-loop-home : goal.invariant-loop-home
invariant-loop-home g l = Adds g.W.Sink.held g.W.Sink.tally l.initial.out l.out (pieces_below (moved_lines l.league l.schedule) l.home)
