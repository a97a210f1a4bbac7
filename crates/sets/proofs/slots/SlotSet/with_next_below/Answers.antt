use Rattle.std.proofs.Common.{arith, rules}
use Rattle.std.proofs.lemmas.Grind.{common_steps}
use Rattle.sets.proofs.SetWords.{slots_and_next}
use Rattle.sets.proofs.slots.SlotSet.with_next_below.Goals as goal

pub returns-clause-members : goal.returns-clause-members
returns-clause-members c = grind (arith, common_steps, slots_and_next)

pub returns-clause-below : goal.returns-clause-below
returns-clause-below c = search rules
