use Rattle.std.proofs.Common.{◌≡◌, ◌++◌, ◌-◌, List}
use Rattle.fixture_board.specs.Record.{Book}
use Rattle.improvement.specs.declared.legs.Assignment.{Assignment}
use Rattle.improvement.specs.Legs.{LegRun}
use Rattle.improvement.specs.within.Lines.{IsLine, left_in, assignments_of}
use Rattle.improvement.proofs.line.LegQueue.line_up.Given as goal

abbrev pub invariant-loop-bout : goal.invariant-loop-bout
invariant-loop-bout l = record {
  line : (start : Book) (legs : List LegRun) → IsLine start legs l.initial.self → IsLine start legs l.self;
  assignments : (more : List Assignment) × (assignments_of l.self ≡ assignments_of l.initial.self ++ more);
  left : left_in l.self ≡ left_in l.initial.self;
}

abbrev pub decreases-loop-bout : goal.decreases-loop-bout
decreases-loop-bout l = l.self.stage.wave.bouts - l.self.stage.begun
