use Rattle.std.proofs.Common.{rules}
use Rattle.policy.proofs.waves.Policy.next_leg.Goals as goal

pub returns-in-Some-clause-left : goal.returns-in-Some-clause-left
returns-in-Some-clause-left c = search rules
