use Rattle.std.proofs.Common.{arith}
use Rattle.std.proofs.lemmas.Grind.{common_steps}
use Rattle.rules.specs.Touches.{touches}
use Rattle.rules.proofs.touched_rules.touches.Goals as goal

pub returns-then-looks_at_team : goal.returns-then-looks_at_team
unfolding touches
returns-then-looks_at_team c = grind (arith, common_steps)

pub returns-else-looks_at_team : goal.returns-else-looks_at_team
unfolding touches
returns-else-looks_at_team c = grind (arith, common_steps)
