use Rattle.std.proofs.Common.{◌≡◌, ◌≢◌, ℕ, ◌<◌, ◌≤◌, ◌+◌}
use Rattle.sets.specs.Limits.{max_teams}
use Rattle.bounds.specs.within.Tables.{IsOpponent, leg_at, label_at, walk_at}
use Rattle.bounds.proofs.walks.label_next.Given as goal

abbrev pub invariant-loop-end : goal.invariant-loop-end
invariant-loop-end l = record {
  kept : (g j : ℕ) → g ≤ l.games → j < max_teams → label_at l.labels g j ≡ label_at l.initial.labels g j;
  next : (j e x : ℕ) → IsOpponent l.traveller.teams l.traveller.home j → e < l.end → j ≢ e → x ≢ j →
      walk_at l.labels (l.games + 1) e x ≤ walk_at l.initial.labels l.games j e + leg_at l.legs j e;
}
