use Rattle.std.proofs.Common.{arith}
use Rattle.std.proofs.lemmas.Grind.{common_steps}
use Rattle.league.specs.Made.{apart}
use Rattle.league.proofs.made.apart.Goals as goal

pub returns-in-Circular : goal.returns-in-Circular
unfolding apart
returns-in-Circular c = grind (arith, common_steps)

pub returns-in-Constant : goal.returns-in-Constant
unfolding apart
returns-in-Constant c = grind (arith, common_steps)
