use Rattle.std.proofs.Common.{rules}
use Rattle.sets.proofs.slots.SlotSet.two.Goals as goal

pub returns-clause-value : goal.returns-clause-value
returns-clause-value c = search rules
