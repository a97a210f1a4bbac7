use Rattle.byte_streams.proofs.Pieces.{Adds-piece, Stops-in_pieces, Stops-writes}
use Rattle.std.specs.Prelude.{slice_get}
use Rattle.report_text.specs.within.CostText.{rule_at}
use Rattle.report_text.proofs.cost_text.write_rules.Goals as goal

pub loop-i-preserved : goal.loop-i-preserved
loop-i-preserved g c =
    Adds-piece (λ i. rule_at c.args.schedule.now i (slice_get c.args.league.now.rules i)) c.loop-i.i c.loop-i.invariant
    (rw c.rule.ensures.value c.in_ok-write_rule.ensures.ok)

pub returns-in_err-write_rule : goal.returns-in_err-write_rule
returns-in_err-write_rule g c =
    Stops-writes c.from_residual.ensures.0
    (Stops-in_pieces (λ i. rule_at c.args.schedule.now i (slice_get c.args.league.now.rules i)) c.loop-i.i _
    (rw c.rule_count-i-end.ensures.value at c.loop-i-test.true) c.loop-i.invariant
    (rw c.rule.ensures.value c.in_err-write_rule.ensures.err))
