use Rattle.std.proofs.Common.{◌≢◌, ◌<◌}
use Rattle.std.specs.Prelude.{IfSome}
use Rattle.bounds.proofs.families.best_companion.Given as goal

abbrev pub invariant-loop-x : goal.invariant-loop-x
invariant-loop-x l = IfSome l.best (λ x. (x < l.traveller.teams) × (x ≢ l.traveller.home))
