-- The numbers before column b pass.
use Rattle.std.proofs.Common.{◌≡◌, true}
use Rattle.league.specs.Checks.{is_mirrored_at}
use Rattle.league.specs.Views.{rows}
use Rattle.league.proofs.checks.is_mirrored_at.Given as goal

abbrev pub invariant-loop-b : goal.invariant-loop-b
invariant-loop-b l = is_mirrored_at (rows l.table) l.b l.a ≡ true
