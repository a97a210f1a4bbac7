use Rattle.std.proofs.Common.{arith}
use Rattle.std.proofs.lemmas.Grind.{common_steps}
use Rattle.sets.proofs.SetBits.{has_intersection}
use Rattle.sets.proofs.slots.SlotSet.intersection.Goals as goal

pub returns-clause-members : goal.returns-clause-members
returns-clause-members c = grind (arith, common_steps, has_intersection)
