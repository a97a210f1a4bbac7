use Rattle.byte_streams.proofs.Pieces.{Adds-piece, Stops-in_pieces, Stops-writes}
use Rattle.improvement.specs.Broken.{broken_line}
use Rattle.improvement.specs.declared.broken.Part.TheVariants.{RuleAt}
use Rattle.improvement.proofs.broken.write_rules.Goals as goal

pub loop-i-preserved : goal.loop-i-preserved
loop-i-preserved g c =
    Adds-piece (λ i. broken_line c.args.league.now c.args.chains.now.bests.items (RuleAt i)) c.loop-i.i c.loop-i.invariant
    c.in_ok-write_line.ensures.ok

pub returns-in_err-write_line : goal.returns-in_err-write_line
returns-in_err-write_line g c =
    Stops-writes c.from_residual.ensures.0
    (Stops-in_pieces (λ i. broken_line c.args.league.now c.args.chains.now.bests.items (RuleAt i)) c.loop-i.i _
    (rw c.rule_count-i-end.ensures.value at c.loop-i-test.true) c.loop-i.invariant c.in_err-write_line.ensures.err)
