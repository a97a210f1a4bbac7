use Rattle.byte_streams.specs.Pieces.{pieces_below}
use Rattle.byte_streams.specs.Writing.{Adds}
use Rattle.report_bounds.specs.BoundsText.{tour_bound_line}
use Rattle.report_bounds.proofs.bounds_text.write_tours.Given as goal

abbrev pub invariant-loop-team : goal.invariant-loop-team
invariant-loop-team g l = Adds g.W.Sink.held g.W.Sink.tally l.initial.out l.out (pieces_below (tour_bound_line l.tours) l.team)
