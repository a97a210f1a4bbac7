use Rattle.std.proofs.Common.{arith}
use Rattle.std.proofs.lemmas.Grind.{common_steps}
use Rattle.sets.proofs.SetWords.{slots_like_next}
use Rattle.sets.proofs.slots.SlotSet.like_next_below.Goals as goal

pub returns : goal.returns
returns c = grind (arith, common_steps, slots_like_next)
