use Rattle.improvement.proofs.Bests.{unkept_is_broken_in_each}
use Rattle.improvement.proofs.laws.unkept_is_broken_in_each.Goals as goal

pub returns : goal.returns
returns c = unkept_is_broken_in_each
