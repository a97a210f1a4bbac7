use Rattle.std.proofs.Common.{◌≡◌}
use Rattle.benchmarks.proofs.turns.take.Given as goal

abbrev pub invariant-loop-index : goal.invariant-loop-index
invariant-loop-index g l = (l.seat.table ≡ l.initial.seat.table)
