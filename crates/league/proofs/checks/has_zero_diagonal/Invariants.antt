-- The teams below a pass.
use Rattle.std.proofs.Common.{◌≡◌, true}
use Rattle.league.specs.Checks.{has_zero_diagonal}
use Rattle.league.specs.Views.{rows}
use Rattle.league.proofs.checks.has_zero_diagonal.Given as goal

abbrev pub invariant-loop-a : goal.invariant-loop-a
invariant-loop-a l = has_zero_diagonal l.a (rows l.table) ≡ true
