use Rattle.std.proofs.Common.{◌≤◌}
use Rattle.benchmarks.proofs.measure.measure.Given as goal

-- each move adds one at most
abbrev pub invariant-loop-index : goal.invariant-loop-index
invariant-loop-index l = record {
  counted : l.made ≤ l.index;
}
