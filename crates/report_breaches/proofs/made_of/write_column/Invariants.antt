use Rattle.byte_streams.specs.Pieces.{pieces_below}
use Rattle.byte_streams.specs.Writing.{Adds}
use Rattle.report_breaches.specs.BreachText.{named_cell}
use Rattle.report_breaches.proofs.made_of.write_column.Given as goal

abbrev pub invariant-loop-team : goal.invariant-loop-team
invariant-loop-team g l =
    Adds g.W.Sink.held g.W.Sink.tally l.initial.out l.out (pieces_below (λ team. named_cell l.schedule l.body l.place team l.round) l.team)
