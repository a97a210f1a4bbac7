use Rattle.std.proofs.Common.{sym}
use Rattle.league.specs.Checks.{is_symmetric}
use Rattle.sets.proofs.ForCallers.{all_below_fails}
use Rattle.league.proofs.checks.is_symmetric.Goals as goal

pub returns-then-not-is_mirrored_at : goal.returns-then-not-is_mirrored_at
unfolding is_symmetric
returns-then-not-is_mirrored_at c =
    sym (all_below_fails c.args.n _ c.loop-a.a c.loop-a-test.true (sym c.if-not-is_mirrored_at.ensures))
