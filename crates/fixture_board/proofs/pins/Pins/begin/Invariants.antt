use Rattle.std.proofs.Common.{nat_lt}
use Rattle.fixture_board.specs.within.PinTable.{AreBegun}
use Rattle.fixture_board.proofs.pins.Pins.begin.Given as goal

abbrev pub invariant-loop-home : goal.invariant-loop-home
invariant-loop-home l = AreBegun l.league (λ h a. nat_lt h l.home) l.self
