use Rattle.std.proofs.Common.{◌≡◌}
use Rattle.board_tests.proofs.tests.threads.work.Given as goal

abbrev pub invariant-loop : goal.invariant-loop
invariant-loop g l = (l.seat.table ≡ l.initial.seat.table)
