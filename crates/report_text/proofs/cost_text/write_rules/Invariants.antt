use Rattle.byte_streams.specs.Pieces.{pieces_below}
use Rattle.byte_streams.specs.Writing.{Adds}
use Rattle.std.specs.Prelude.{slice_get}
use Rattle.report_text.specs.within.CostText.{rule_at}
use Rattle.report_text.proofs.cost_text.write_rules.Given as goal

abbrev pub invariant-loop-i : goal.invariant-loop-i
invariant-loop-i g l =
    Adds g.W.Sink.held g.W.Sink.tally l.initial.out l.out (pieces_below (λ i. rule_at l.schedule i (slice_get l.league.rules i)) l.i)
