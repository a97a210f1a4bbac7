use Rattle.std.proofs.Common.{◌≡◌, ℕ, ◌≤◌, ◌∙◌, Bool, false, ap, not, arith}
use Rattle.league.specs.declared.rule.RuleBody.{RuleBody}
use Rattle.rule_index.specs.Alterable.{passes_at}
use Rattle.league.specs.Sets.{with_number}
use Rattle.rules.specs.LooksPast.{looks_past}
use Rattle.rule_index.specs.Index.{looks_at_games_of, has_opponent, has_stranger}
use Rattle.rule_index.proofs.Collected.{collected_none, collected_more, collected_all, passes_here, passes_past}
use Rattle.rule_index.proofs.rows.team_row.Goals as goal

pub loop-i-init : goal.loop-i-init
loop-i-init c = record {
  own = collected_none (passes_at c.args.league.now.rules (looks_at_games_of c.args.team)) _ c.empty-own.ensures.members;
  opponent = collected_none (passes_at c.args.league.now.rules (has_opponent c.args.team)) _ c.empty-opponent.ensures.members;
  stranger = collected_none (passes_at c.args.league.now.rules (has_stranger c.args.team)) _ c.empty-stranger.ensures.members;
}

tested : (c : goal.After-with_if-stranger) → not c.looks_past.result ≡ looks_at_games_of c.args.team c.rule-rule.result.now.body
unfolding looks_at_games_of
tested c =
    ap not (c.looks_past.ensures ∙
    ap (λ set. looks_past set c.rule-rule.result.now.body)
    (c.with-alone.ensures.value ∙ ap (λ set. with_number set c.args.team) c.empty.ensures.value))

pub loop-i-preserved : goal.loop-i-preserved
loop-i-preserved c =
    let here = λ (test : RuleBody → Bool). passes_here c.args.league.now.rules test c.loop-i.i c.rule-rule.result.now c.rule-rule.ensures.value in
    record {
      own = collected_more _ _ _ _ _ c.loop-i.invariant.own (tested c ∙ here (looks_at_games_of c.args.team)) c.with_if-own.ensures;
      opponent = collected_more _ _ _ _ _ c.loop-i.invariant.opponent (c.has_opponent.ensures ∙ here (has_opponent c.args.team))
          c.with_if-opponent.ensures;
      stranger = collected_more _ _ _ _ _ c.loop-i.invariant.stranger (c.has_stranger.ensures ∙ here (has_stranger c.args.team))
          c.with_if-stranger.ensures;
    }

pub returns : goal.returns
returns c =
    let past : (test : RuleBody → Bool) (k : ℕ) → c.loop-i.i ≤ k → passes_at c.args.league.now.rules test k ≡ false =
    λ test k beyond. passes_past c.args.league.now.rules test k (omega (arith, c.rule_count-i-end.ensures.value, beyond)) in
    record {
      own = collected_all _ _ _ c.loop-i.invariant.own (past (looks_at_games_of c.args.team));
      opponent = collected_all _ _ _ c.loop-i.invariant.opponent (past (has_opponent c.args.team));
      stranger = collected_all _ _ _ c.loop-i.invariant.stranger (past (has_stranger c.args.team));
    }
