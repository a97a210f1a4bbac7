use Rattle.std.proofs.Common.{◌≡◌, ℕ, ◌<◌, length, Some, slice_get}
use Rattle.league.specs.Limits.{max_rounds}
use Rattle.rule_index.specs.Index.{IsRoundRow}
use Rattle.rule_index.proofs.rows.round_rows.Given as goal

abbrev pub invariant-loop-round : goal.invariant-loop-round
invariant-loop-round l = record {
  len : length l.rows ≡ max_rounds;
  rows : (k row : ℕ) → k < l.round → slice_get l.rows k ≡ Some row → IsRoundRow l.league.rules k row;
}
