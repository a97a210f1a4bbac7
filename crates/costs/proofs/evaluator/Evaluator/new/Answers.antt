use Rattle.std.proofs.Common.{rules}
use Rattle.costs.proofs.evaluator.Evaluator.new.Goals as goal

pub returns : goal.returns
returns c = search rules
