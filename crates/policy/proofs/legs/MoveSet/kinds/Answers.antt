use Rattle.std.proofs.Common.{rules}
use Rattle.policy.proofs.legs.MoveSet.kinds.Goals as goal

pub returns-in-Rigid-clause-value : goal.returns-in-Rigid-clause-value
returns-in-Rigid-clause-value c = search rules
