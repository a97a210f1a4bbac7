use Rattle.std.proofs.Common.{rules}
use Rattle.policy.proofs.waves.Policy.first_leg.Goals as goal

pub returns-clause-left : goal.returns-clause-left
returns-clause-left c = search rules
