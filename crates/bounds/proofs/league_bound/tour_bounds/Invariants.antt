use Rattle.std.proofs.Common.{◌≡◌, ℕ, ◌<◌, ◌≤◌, ◌^◌, length, slice_index}
use Rattle.bounds.specs.Bounds.{IsTourBound}
use Rattle.bounds.proofs.league_bound.tour_bounds.Given as goal

abbrev pub invariant-loop-team : goal.invariant-loop-team
invariant-loop-team l = record {
  count : length l.bounds.items ≡ l.team;
  each : (team : ℕ) → team < l.team → IsTourBound l.league team (slice_index l.bounds.items team);
  limit : (team : ℕ) → slice_index l.bounds.items team ≤ 2 ^ 48;
}
