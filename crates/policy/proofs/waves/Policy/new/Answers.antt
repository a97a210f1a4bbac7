use Rattle.std.proofs.Common.{rules}
use Rattle.policy.proofs.waves.Policy.new.Goals as goal

pub returns : goal.returns
returns c = search rules
