use Rattle.std.proofs.Common.{◌≡◌}
use Rattle.board_tests.proofs.tests.seat_steps.check_seats.Given as goal

abbrev pub invariant-loop-who : goal.invariant-loop-who
invariant-loop-who g l =
    (l.pair.first.table ≡ l.initial.pair.first.table) × (l.pair.second.table ≡ l.initial.pair.second.table)
