use Rattle.rules.specs.Deviations.{deviation}
use Rattle.rules.proofs.classes.ca4.ca4.Goals as goal

pub returns-then-capacity : goal.returns-then-capacity
unfolding deviation
returns-then-capacity c = rw c.if-capacity.true c.over_in_slots.ensures

pub returns-else-capacity : goal.returns-else-capacity
unfolding deviation
returns-else-capacity c = rw c.if-capacity.false (rw c.games_of_all.ensures at c.over.ensures.value)
