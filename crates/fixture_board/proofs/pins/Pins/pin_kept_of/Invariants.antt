use Rattle.std.proofs.Common.{ℕ, Bool, ◌&&◌, ◌||◌, ◌==◌, nat_lt}
use Rattle.fixture_board.specs.within.PinTable.{AreBegun}
use Rattle.fixture_board.proofs.pins.Pins.pin_kept_of.Given as goal

abbrev pub invariant-loop-away : goal.invariant-loop-away
invariant-loop-away l =
    (passes : ℕ → ℕ → Bool) → AreBegun l.league passes l.fn.self →
    AreBegun l.league (λ h a. passes h a || (h == l.home && nat_lt a l.away)) l.self
