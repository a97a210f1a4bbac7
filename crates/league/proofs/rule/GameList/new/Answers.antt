use Rattle.std.specs.List.{IsDistinct}
use Rattle.league.proofs.rule.GameList.new.Goals as goal

pub invariant_of-result : goal.invariant_of-result
unfolding IsDistinct
invariant_of-result c = rw c.new.ensures.items (record { each_once = tt; fit = tt })
