use Rattle.std.proofs.Common.{arith}
use Rattle.std.proofs.lemmas.Grind.{common_steps}
use Rattle.sets.proofs.SetWords.{slots_flipped}
use Rattle.sets.proofs.slots.SlotSet.symmetric_difference.Goals as goal

pub returns : goal.returns
returns c = grind (arith, common_steps, slots_flipped)
