use Rattle.byte_streams.specs.Pieces.{pieces_below}
use Rattle.byte_streams.specs.Writing.{Adds}
use Rattle.schedule_texts.specs.within.Faults.{count_lines}
use Rattle.schedule_texts.proofs.faults.write_counts.Given as goal

abbrev pub invariant-loop-team : goal.invariant-loop-team
invariant-loop-team g l =
    Adds g.W.Sink.held g.W.Sink.tally l.initial.out l.out (pieces_below (count_lines l.counted l.teams l.games) l.team)
