use Rattle.std.proofs.Common.{List}
use Rattle.league.specs.Limits.{max_teams}
use Rattle.league.specs.Sets.{IsBelow}
use Rattle.league.specs.declared.rule.Rule.{Rule}
use Rattle.rule_index.specs.Index.{IsIndexOf}
use Rattle.rule_index.proofs.Unions.{AreRulesWithout}
use Rattle.rule_index.proofs.index.RuleIndex.around.Given as goal

abbrev pub invariant-loop-team : goal.invariant-loop-team
invariant-loop-team l = record {
  below : IsBelow max_teams l.team-iterator;
  found : (rules : List Rule) → IsIndexOf rules l.self → AreRulesWithout rules l.fn.teams l.team-iterator l.own l.opponent l.stranger;
}
