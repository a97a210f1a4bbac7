use Rattle.std.proofs.Common.{◌*◌, ◌≤◌, slice_index}
use Rattle.sets.specs.Sums.{sum_below}
use Rattle.bounds.proofs.prices.paid.Given as goal

abbrev pub invariant-loop-k : goal.invariant-loop-k
invariant-loop-k l = l.paid ≤ sum_below l.k (λ k. slice_index l.prices k * slice_index l.entries k)
