use Rattle.std.proofs.Common.{◌≡◌, ℕ, ◌<◌, ◌≤◌, length, get_or}
use Rattle.rules.specs.within.Walked.{mask_in, row_length}
use Rattle.rules.proofs.home_rows.mask_of.Given as goal

abbrev pub invariant-loop-round : goal.invariant-loop-round
invariant-loop-round l = record {
  len : length l.row ≡ row_length;
  written : (k : ℕ) → k < l.round → get_or l.row k 0 ≡ mask_in l.slots k;
  rest : (k : ℕ) → l.round ≤ k → get_or l.row k 0 ≡ 0;
}
