use Rattle.rule_index.proofs.ForCallers.{nothing_else_altered}
use Rattle.rule_index.proofs.laws.nothing_else_alters.Goals as goal

pub returns : goal.returns
returns c = nothing_else_altered
