use Rattle.std.proofs.Common.{◌≡◌, ◌≤◌, ◌*◌, ◌^◌, slice_index}
use Rattle.sets.specs.Sums.{sum_below}
use Rattle.bounds.proofs.league_bound.sum_of.Given as goal

abbrev pub invariant-loop-bound : goal.invariant-loop-bound
invariant-loop-bound l = record {
  sum_is : l.sum ≡ sum_below l.bound-index (slice_index l.bounds);
  small : l.sum ≤ 2 ^ 48 * l.bound-index;
}
