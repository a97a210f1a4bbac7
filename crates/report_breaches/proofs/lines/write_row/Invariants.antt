use Rattle.byte_streams.specs.Pieces.{pieces_below}
use Rattle.byte_streams.specs.Writing.{Adds}
use Rattle.report_breaches.specs.BreachText.{lines_of}
use Rattle.report_breaches.specs.within.Terms.{breach_in}
use Rattle.report_breaches.proofs.lines.write_row.Given as goal

abbrev pub invariant-loop-column : goal.invariant-loop-column
invariant-loop-column g l =
    Adds g.W.Sink.held g.W.Sink.tally l.initial.out l.out
    (pieces_below (λ k. lines_of l.schedule l.number l.body (breach_in l.schedule l.body l.row k)) l.column)
