use Rattle.std.proofs.Common.{◌≡◌}
use Rattle.board_tests.proofs.tests.drawn_seats.ask_both.Given as goal

abbrev pub invariant-loop : goal.invariant-loop
invariant-loop g l = (l.seat.table ≡ l.initial.seat.table)
