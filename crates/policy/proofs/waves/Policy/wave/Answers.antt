use Rattle.std.proofs.Common.{rules}
use Rattle.policy.proofs.waves.Policy.wave.Goals as goal

pub returns-then-self-eq0-clause-none : goal.returns-then-self-eq0-clause-none
returns-then-self-eq0-clause-none c = search rules
