use Rattle.std.proofs.Common.{arith}
use Rattle.std.proofs.lemmas.Grind.{common_steps}
use Rattle.rules.specs.Deviations.{rounds_between}
use Rattle.rules.proofs.classes.se1.rounds_between.Goals as goal

pub returns : goal.returns
unfolding rounds_between
returns c = grind (arith, common_steps)
