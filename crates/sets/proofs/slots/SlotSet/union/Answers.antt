use Rattle.std.proofs.Common.{arith}
use Rattle.std.proofs.lemmas.Grind.{common_steps}
use Rattle.sets.proofs.SetWords.{slots_of_either}
use Rattle.sets.proofs.slots.SlotSet.union.Goals as goal

pub returns : goal.returns
returns c = grind (arith, common_steps, slots_of_either)
