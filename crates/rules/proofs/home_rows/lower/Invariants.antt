use Rattle.std.proofs.Common.{◌≡◌, ℕ, ◌<◌, ◌≤◌, length, get_or, min}
use Rattle.rules.specs.within.Walked.{row_length}
use Rattle.rules.proofs.home_rows.lower.Given as goal

abbrev pub invariant-loop-round : goal.invariant-loop-round
invariant-loop-round l = record {
  len : length l.row ≡ row_length;
  done : (k : ℕ) → k < l.round → get_or l.row k 0 ≡ min (get_or l.initial.row k 0) (get_or l.other k 0);
  rest : (k : ℕ) → l.round ≤ k → get_or l.row k 0 ≡ get_or l.initial.row k 0;
}
