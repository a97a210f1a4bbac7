use Rattle.std.proofs.Common.{rules}
use Rattle.costs.proofs.cost.Cost.score.Goals as goal

pub returns : goal.returns
returns c = search rules
