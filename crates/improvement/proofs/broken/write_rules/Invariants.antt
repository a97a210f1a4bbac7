use Rattle.byte_streams.specs.Pieces.{pieces_below}
use Rattle.byte_streams.specs.Writing.{Adds}
use Rattle.improvement.specs.Broken.{broken_line}
use Rattle.improvement.specs.declared.broken.Part.TheVariants.{RuleAt}
use Rattle.improvement.proofs.broken.write_rules.Given as goal

abbrev pub invariant-loop-i : goal.invariant-loop-i
invariant-loop-i g l =
    Adds g.W.Sink.held g.W.Sink.tally l.initial.out l.out
    (pieces_below (λ i. broken_line l.league l.chains.bests.items (RuleAt i)) l.i)
