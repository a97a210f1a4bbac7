use Rattle.std.proofs.Common.{◌*◌, length}
use Rattle.std.specs.Prelude.{slice_get}
use Rattle.league.specs.Limits.{deviation_limit, max_weight}
use Rattle.league.proofs.ForCallers.{IsSumWithout}
use Rattle.costs.specs.Costs.{hard_penalty, soft_penalty}
use Rattle.costs.specs.within.CostParts.{rule_part}
use Rattle.costs.proofs.rule_costs.parts_of_rules.Given as goal

abbrev pub invariant-loop-i : goal.invariant-loop-i
invariant-loop-i l = record {
  hard : IsSumWithout (length l.league.rules) l.scope.rules l.i-iterator l.costs.hard deviation_limit
      (λ i. rule_part hard_penalty l.scope.main l.scope.flipping l.schedule (slice_get l.league.rules i));
  soft : IsSumWithout (length l.league.rules) l.scope.rules l.i-iterator l.costs.soft (max_weight * deviation_limit)
      (λ i. rule_part soft_penalty l.scope.main l.scope.flipping l.schedule (slice_get l.league.rules i));
}
