use Rattle.std.proofs.Common.{◌≡◌}
use Rattle.climber.proofs.together.climb_from.Given as goal

abbrev pub invariant-loop : goal.invariant-loop
invariant-loop g l = (l.seat.table ≡ l.initial.seat.table)
