use Rattle.std.proofs.Common.{arith}
use Rattle.std.proofs.lemmas.Grind.{common_steps}
use Rattle.sets.proofs.SetWords.{slots_without}
use Rattle.sets.proofs.slots.SlotSet.difference.Goals as goal

pub returns-clause-members : goal.returns-clause-members
returns-clause-members c = grind (arith, common_steps, slots_without)
