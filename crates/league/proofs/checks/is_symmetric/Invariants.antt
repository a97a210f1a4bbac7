-- The rows above row a pass.
use Rattle.std.proofs.Common.{◌≡◌, true}
use Rattle.league.specs.Checks.{is_mirrored_at}
use Rattle.sets.specs.Sums.{all_below}
use Rattle.league.specs.Views.{rows}
use Rattle.league.proofs.checks.is_symmetric.Given as goal

abbrev pub invariant-loop-a : goal.invariant-loop-a
invariant-loop-a l = all_below l.a (is_mirrored_at (rows l.table) l.n) ≡ true
