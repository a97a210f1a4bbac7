use Rattle.std.proofs.Common.{◌≢◌, ℕ, ◌<◌, ◌≤◌, ◌+◌}
use Rattle.bounds.specs.within.Tables.{leg_at, walk_at, to_of}
use Rattle.bounds.proofs.walks.label_of_next.Given as goal

abbrev pub invariant-loop-j : goal.invariant-loop-j
invariant-loop-j l = (j x : ℕ) → j < l.j → j ≢ l.traveller.home → j ≢ l.end → x ≢ j →
    to_of l.label x ≤ walk_at l.labels l.games j l.end + leg_at l.legs j l.end
