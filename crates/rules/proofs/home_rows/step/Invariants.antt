use Rattle.std.proofs.Common.{◌≡◌, ℕ, ◌<◌, ◌≤◌, length, get_or}
use Rattle.rules.proofs.home_rows.step.Given as goal
use Rattle.rules.specs.within.Walked.{row_length}

abbrev pub invariant-loop-place : goal.invariant-loop-place
invariant-loop-place l = record {
  len : length l.step ≡ 160;
  before : (k : ℕ) → k < row_length → get_or l.step k 0 ≡ 0;
  written : (k : ℕ) → row_length ≤ k → k < l.place → get_or l.step k 0 ≡ 1;
}
