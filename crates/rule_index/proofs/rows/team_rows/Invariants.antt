use Rattle.std.proofs.Common.{◌≡◌, ℕ, ◌<◌, length, Some, slice_get}
use Rattle.league.specs.Limits.{max_teams}
use Rattle.rule_index.specs.Index.{IsTeamRow}
use Rattle.rule_index.specs.declared.rows.TeamRules.{TeamRules}
use Rattle.rule_index.proofs.rows.team_rows.Given as goal

abbrev pub invariant-loop-team : goal.invariant-loop-team
invariant-loop-team l = record {
  len : length l.rows ≡ max_teams;
  rows : (k : ℕ) (row : TeamRules) → k < l.team → slice_get l.rows k ≡ Some row → IsTeamRow l.league.rules k row;
}
