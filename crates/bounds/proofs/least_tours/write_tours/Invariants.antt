use Rattle.std.proofs.Common.{◌≡◌, ℕ, ◌<◌, ◌≤◌, ◌+◌, slice_index}
use Rattle.bounds.proofs.least_tours.write_tours.Given as goal

abbrev pub invariant-loop-all : goal.invariant-loop-all
invariant-loop-all l = record {
  none : slice_index l.tours 0 ≡ 0;
  trip : (before games : ℕ) → 1 ≤ games → games ≤ l.traveller.most → before + games < l.all →
      slice_index l.tours (before + games) ≤ slice_index l.tours before + slice_index l.trips games;
}
