use Rattle.std.proofs.Common.{◌≡◌, List}
use Rattle.std.specs.VecDeque.{deque_len}
use Rattle.improvement.specs.Legs.{LegRun}
use Rattle.improvement.specs.within.Lines.{IsLine, assignments_of}
use Rattle.improvement.proofs.line.LegQueue.run_first.Given as goal

abbrev pub invariant-loop-self : goal.invariant-loop-self
invariant-loop-self g l = record {
  some : (legs : List LegRun) × IsLine l.setting.start.now legs l.self;
  line : (legs : List LegRun) → IsLine l.setting.start.now legs l.initial.self → IsLine l.setting.start.now legs l.self;
  assignments : assignments_of l.self ≡ assignments_of l.initial.self;
  series : l.self.series ≡ l.initial.self.series;
}

abbrev pub decreases-loop-self : goal.decreases-loop-self
decreases-loop-self g l = deque_len l.self.waiting
