use Rattle.std.proofs.Common.{rules}
use Rattle.sets.proofs.slots.SlotSet.empty.Goals as goal

pub returns : goal.returns
returns c = search rules
