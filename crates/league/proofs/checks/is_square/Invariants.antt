-- The rows that are left decide.
use Rattle.std.proofs.Common.{◌≡◌, drop}
use Rattle.league.specs.Checks.{has_columns}
use Rattle.league.specs.Views.{rows}
use Rattle.league.proofs.checks.is_square.Given as goal

abbrev pub invariant-loop-row : goal.invariant-loop-row
invariant-loop-row l = has_columns l.n (rows (drop l.row-index l.table)) ≡ has_columns l.n (rows l.table)
