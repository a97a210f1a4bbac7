use Rattle.byte_streams.specs.Pieces.{pieces_below}
use Rattle.byte_streams.specs.Writing.{Adds}
use Rattle.report_breaches.specs.BreachText.{named_cell}
use Rattle.report_breaches.proofs.made_of.write_row.Given as goal

abbrev pub invariant-loop-round : goal.invariant-loop-round
invariant-loop-round g l =
    Adds g.W.Sink.held g.W.Sink.tally l.initial.out l.out (pieces_below (named_cell l.schedule l.body l.place l.team) l.round)
