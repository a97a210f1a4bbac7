-- The rows that are left decide.
use Rattle.std.proofs.Common.{◌≡◌, drop}
use Rattle.league.specs.Checks.{are_in_range}
use Rattle.league.specs.Views.{rows}
use Rattle.league.proofs.checks.are_in_range.Given as goal

abbrev pub invariant-loop-row : goal.invariant-loop-row
invariant-loop-row l = are_in_range (rows (drop l.row-index l.table)) ≡ are_in_range (rows l.table)
