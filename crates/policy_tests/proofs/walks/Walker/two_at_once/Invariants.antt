use Rattle.std.proofs.Common.{◌+◌, ◌≤◌}
use Rattle.policy.specs.Limits.{max_effort}
use Rattle.policy.specs.Legs.{steps_of}
use Rattle.policy_tests.proofs.walks.Walker.two_at_once.Given as goal

abbrev pub invariant-loop-bout : goal.invariant-loop-bout
invariant-loop-bout l = l.self.policy.left + steps_of l.waiting ≤ max_effort
