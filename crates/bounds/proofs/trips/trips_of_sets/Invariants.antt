use Rattle.std.proofs.Common.{◌≡◌, ℕ, ◌<◌, length, slice_index}
use Rattle.bounds.specs.within.Prices.{trips_of}
use Rattle.bounds.proofs.trips.trips_of_sets.Given as goal

abbrev pub invariant-loop-set : goal.invariant-loop-set
invariant-loop-set l = record {
  count : length l.trips.items ≡ l.set-index;
  value : (k : ℕ) → k < l.set-index → slice_index l.trips.items k ≡ trips_of l.traveller.most (slice_index l.sets k);
}
