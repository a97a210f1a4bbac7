use Rattle.std.proofs.Common.{arith}
use Rattle.std.proofs.lemmas.Grind.{common_steps}
use Rattle.rules.specs.LooksPast.{takes_all_or_none}
use Rattle.rules.specs.Touches.{has_touched_team}
use Rattle.rules.proofs.looked_past.takes_all_or_none.Goals as goal

pub returns-then-not-intersects : goal.returns-then-not-intersects
unfolding takes_all_or_none has_touched_team
returns-then-not-intersects c = grind (arith, common_steps)

pub returns-else-not-intersects : goal.returns-else-not-intersects
unfolding takes_all_or_none has_touched_team
returns-else-not-intersects c = grind (arith, common_steps)
