use Rattle.rule_index.proofs.ForCallers.{IsCollected}
use Rattle.costs.proofs.KeptDeviations.{is_some_at}
use Rattle.costs.proofs.kept_deviations.broken_rules.Given as goal

abbrev pub invariant-loop-i : goal.invariant-loop-i
invariant-loop-i l = IsCollected (is_some_at l.deviations) l.i l.broken
