use Rattle.byte_streams.specs.Pieces.{pieces_below}
use Rattle.byte_streams.specs.Writing.{Adds}
use Rattle.report_breaches.specs.BreachText.{lines_of}
use Rattle.report_breaches.specs.within.Terms.{breaches_in_row}
use Rattle.report_breaches.proofs.lines.write_breaches.Given as goal

abbrev pub invariant-loop-row : goal.invariant-loop-row
invariant-loop-row g l =
    Adds g.W.Sink.held g.W.Sink.tally l.initial.out l.out
    (pieces_below (λ k. lines_of l.schedule l.number l.rule.body (breaches_in_row l.schedule l.rule.body k)) l.row)
