use Rattle.std.proofs.Common.{take}
use Rattle.fixture_board.specs.within.Retraced.{IsRetraced}
use Rattle.fixture_board.proofs.pins.Pins.retrace.Given as goal

abbrev pub invariant-loop-change : goal.invariant-loop-change
invariant-loop-change l = IsRetraced l.league (take l.change-index l.changes) l.self
