use Rattle.std.proofs.Common.{rules}
use Rattle.policy.proofs.plan.Plan.level.Goals as goal

pub returns : goal.returns
returns c = search rules
