use Rattle.std.proofs.Common.{◌*◌, length}
use Rattle.std.specs.Prelude.{slice_get}
use Rattle.league.specs.Limits.{deviation_limit, max_weight}
use Rattle.league.proofs.ForCallers.{IsSumWithout}
use Rattle.costs.specs.Costs.{hard_penalty, soft_penalty, penalty_of}
use Rattle.costs.proofs.rule_costs.known_penalties.Given as goal

abbrev pub invariant-loop-i : goal.invariant-loop-i
invariant-loop-i l = record {
  hard : IsSumWithout (length l.league.rules) l.initial.i-iterator l.i-iterator l.costs.hard deviation_limit
      (λ i. penalty_of hard_penalty l.schedule (slice_get l.league.rules i));
  soft : IsSumWithout (length l.league.rules) l.initial.i-iterator l.i-iterator l.costs.soft (max_weight * deviation_limit)
      (λ i. penalty_of soft_penalty l.schedule (slice_get l.league.rules i));
}
