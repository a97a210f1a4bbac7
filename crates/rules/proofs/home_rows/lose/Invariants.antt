use Rattle.std.proofs.Common.{◌≡◌, ℕ, ◌+◌, ◌<◌, ◌≤◌, length, get_or}
use Rattle.rules.specs.within.Walked.{from_on, row_length}
use Rattle.rules.proofs.home_rows.lose.Given as goal

abbrev pub invariant-loop-round : goal.invariant-loop-round
invariant-loop-round l = record {
  len : length l.row ≡ row_length;
  lost : (k : ℕ) → k < l.round → get_or l.row k 0 + from_on l.first k ≡ get_or l.initial.row k 0;
  rest : (k : ℕ) → l.round ≤ k → get_or l.row k 0 ≡ get_or l.initial.row k 0;
}
