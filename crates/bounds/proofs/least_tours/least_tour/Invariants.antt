use Rattle.std.proofs.Common.{◌≡◌, ℕ, ◌<◌, ◌≤◌, ◌+◌, slice_index}
use Rattle.bounds.proofs.least_tours.least_tour.Given as goal

abbrev pub invariant-loop-games : goal.invariant-loop-games
invariant-loop-games l = (games before : ℕ) → 1 ≤ games → games < l.games → before + games ≡ l.all →
    l.least ≤ slice_index l.tours before + slice_index l.trips games
