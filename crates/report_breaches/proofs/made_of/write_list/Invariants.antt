use Rattle.std.specs.Prelude.{slice_get}
use Rattle.byte_streams.specs.Pieces.{pieces_below}
use Rattle.byte_streams.specs.Writing.{Adds}
use Rattle.league.specs.Sets.{has}
use Rattle.report_breaches.specs.BreachText.{listed_at}
use Rattle.report_breaches.proofs.made_of.write_list.Given as goal

abbrev pub invariant-loop-i : goal.invariant-loop-i
invariant-loop-i g l =
    Adds g.W.Sink.held g.W.Sink.tally l.initial.out l.out
    (pieces_below (λ i. listed_at l.schedule l.whole (has l.slots) (slice_get l.games i)) l.i)
