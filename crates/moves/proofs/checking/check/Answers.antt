use Rattle.std.proofs.Common.{rules}
use Rattle.moves.proofs.checking.check.Goals as goal

pub returns-then-not-in_range : goal.returns-then-not-in_range
returns-then-not-in_range c = search rules

pub returns-then-round_of-k : goal.returns-then-round_of-k
returns-then-round_of-k c = search rules

pub returns-else-round_of-k-2 : goal.returns-else-round_of-k-2
returns-else-round_of-k-2 c = search rules

pub returns-in_default : goal.returns-in_default
returns-in_default c = search rules
