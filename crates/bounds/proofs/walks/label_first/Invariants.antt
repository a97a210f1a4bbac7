use Rattle.std.proofs.Common.{◌≢◌, ℕ, ◌<◌, ◌≤◌}
use Rattle.bounds.specs.within.Tables.{leg_at, walk_at}
use Rattle.bounds.proofs.walks.label_first.Given as goal

abbrev pub invariant-loop-j : goal.invariant-loop-j
invariant-loop-j l = (j x : ℕ) → j < l.j → x ≢ l.traveller.home → walk_at l.labels 1 j x ≤ leg_at l.legs l.traveller.home j
