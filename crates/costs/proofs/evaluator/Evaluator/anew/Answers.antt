use Rattle.std.proofs.Common.{rules}
use Rattle.costs.proofs.evaluator.Evaluator.anew.Goals as goal

pub returns : goal.returns
returns c = search rules
