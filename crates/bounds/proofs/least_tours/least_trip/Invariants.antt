use Rattle.std.proofs.Common.{◌≢◌, ℕ, ◌<◌, ◌≤◌, ◌+◌}
use Rattle.bounds.specs.within.Tables.{leg_at, walk_at}
use Rattle.bounds.proofs.least_tours.least_trip.Given as goal

abbrev pub invariant-loop-j : goal.invariant-loop-j
invariant-loop-j l = (j : ℕ) → j < l.j → j ≢ l.traveller.home →
    l.least ≤ walk_at l.labels l.games j j + leg_at l.legs j l.traveller.home
