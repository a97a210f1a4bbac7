use Rattle.std.proofs.Common.{sym, arith}
use Rattle.std.proofs.lemmas.Bool.Decides.{nat_tests}
use Rattle.league.specs.Checks.{has_zero_diagonal}
use Rattle.sets.proofs.ForCallers.{all_below_fails}
use Rattle.league.proofs.checks.has_zero_diagonal.Goals as goal

pub returns-then-distance_at-ne0 : goal.returns-then-distance_at-ne0
unfolding has_zero_diagonal
returns-then-distance_at-ne0 c =
    sym (all_below_fails c.args.n _ c.loop-a.a c.loop-a-test.true (grind (arith, nat_tests)))
