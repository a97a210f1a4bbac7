use Rattle.rule_index.specs.Alterable.{passes_at}
use Rattle.std.proofs.Common.{◌≡◌, ◌∙◌, ap, arith}
use Rattle.league.specs.Sets.{has, with_number}
use Rattle.rules.specs.Touches.{looks_at_round}
use Rattle.rule_index.specs.Index.{looks_in_round}
use Rattle.rule_index.proofs.Collected.{collected_none, collected_more, collected_all, passes_here, passes_past}
use Rattle.rule_index.proofs.rows.round_row.Goals as goal

pub loop-i-init : goal.loop-i-init
loop-i-init c = collected_none (passes_at c.args.league.now.rules (looks_in_round c.args.round)) _ c.empty-found.ensures.members

tested : (c : goal.After-with_if-found) → c.looks_at_round.result ≡ looks_in_round c.args.round c.rule-rule.result.now.body
unfolding looks_in_round
tested c =
    c.looks_at_round.ensures ∙
    ap (λ set. looks_at_round c.rule-rule.result.now.body (has set))
    (c.with-alone.ensures.value ∙ ap (λ set. with_number set c.args.round) c.empty.ensures.value)

pub loop-i-preserved : goal.loop-i-preserved
loop-i-preserved c =
    collected_more _ _ _ _ _ c.loop-i.invariant
    (tested c ∙ passes_here c.args.league.now.rules (looks_in_round c.args.round) c.loop-i.i c.rule-rule.result.now c.rule-rule.ensures.value)
    c.with_if-found.ensures

pub returns : goal.returns
returns c = record {
  members = collected_all _ _ _ c.loop-i.invariant
      (λ k beyond. passes_past c.args.league.now.rules (looks_in_round c.args.round) k
      (omega (arith, c.rule_count-i-end.ensures.value, beyond)));
}
