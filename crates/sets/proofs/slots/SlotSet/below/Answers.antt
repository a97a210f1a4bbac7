use Rattle.std.proofs.Common.{arith, rules}
use Rattle.std.proofs.lemmas.Grind.{common_steps}
use Rattle.sets.proofs.SetWords.{all_slots_below}
use Rattle.sets.proofs.slots.SlotSet.below.Goals as goal

pub returns-clause-value : goal.returns-clause-value
returns-clause-value c = grind (arith, common_steps, all_slots_below)

pub returns-clause-members : goal.returns-clause-members
returns-clause-members c = grind (arith, common_steps, all_slots_below)

pub returns-clause-below : goal.returns-clause-below
returns-clause-below c = search rules
