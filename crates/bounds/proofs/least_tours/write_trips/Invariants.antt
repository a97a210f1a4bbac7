use Rattle.std.proofs.Common.{ℕ, ◌<◌, ◌≤◌, ◌+◌, slice_index}
use Rattle.bounds.specs.within.Tables.{IsOpponent, leg_at, walk_at}
use Rattle.bounds.proofs.least_tours.write_trips.Given as goal

abbrev pub invariant-loop-games : goal.invariant-loop-games
invariant-loop-games l = (games j : ℕ) → games < l.games → IsOpponent l.traveller.teams l.traveller.home j →
    slice_index l.trips games ≤ walk_at l.labels games j j + leg_at l.legs j l.traveller.home
