use Rattle.std.proofs.Common.{List}
use Rattle.league.specs.Limits.{max_rounds}
use Rattle.league.specs.Sets.{IsBelow}
use Rattle.league.specs.declared.rule.Rule.{Rule}
use Rattle.rule_index.specs.Alterable.{passes_at}
use Rattle.rule_index.specs.Index.{looks_in_round, IsIndexOf}
use Rattle.rule_index.proofs.Unions.{IsUnionWithout}
use Rattle.rule_index.proofs.index.RuleIndex.within.Given as goal

abbrev pub invariant-loop-round : goal.invariant-loop-round
invariant-loop-round l = record {
  below : IsBelow max_rounds l.round-iterator;
  found : (rules : List Rule) → IsIndexOf rules l.self →
      IsUnionWithout max_rounds l.fn.rounds l.round-iterator l.found (λ r. passes_at rules (looks_in_round r));
}
