use Rattle.std.proofs.Common.{sym, arith}
use Rattle.std.proofs.lemmas.Bool.Decides.{nat_tests}
use Rattle.league.specs.Checks.{is_mirrored_at}
use Rattle.sets.proofs.ForCallers.{all_below_fails}
use Rattle.league.proofs.checks.is_mirrored_at.Goals as goal

pub returns-then-distance_at : goal.returns-then-distance_at
unfolding is_mirrored_at
returns-then-distance_at c = sym (all_below_fails c.args.n _ c.loop-b.b c.loop-b-test.true (grind (arith, nat_tests)))
