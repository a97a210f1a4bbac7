use Rattle.std.proofs.Common.{arith}
use Rattle.std.proofs.lemmas.Grind.{common_steps}
use Rattle.rules.specs.Deviations.{deviation}
use Rattle.rules.proofs.classes.ga1.ga1.Goals as goal

pub returns : goal.returns
unfolding deviation
returns c = grind (arith, common_steps)
