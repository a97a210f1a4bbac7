use Rattle.byte_streams.specs.Pieces.{pieces_below}
use Rattle.byte_streams.specs.Writing.{Adds}
use Rattle.schedule_texts.specs.within.Faults.{count_in, count_line}
use Rattle.schedule_texts.proofs.faults.write_counts_of.Given as goal

abbrev pub invariant-loop-number : goal.invariant-loop-number
invariant-loop-number g l =
    Adds g.W.Sink.held g.W.Sink.tally l.initial.out l.out
    (pieces_below (λ number. count_line l.counted l.team number (count_in l.counted l.teams l.games l.team number)) l.number)
