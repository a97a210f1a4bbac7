use Rattle.std.proofs.Common.{refl}
use Rattle.policy.proofs.plan.Plan.wave.Goals as goal

pub returns-then-wants_tries-clause-wave : goal.returns-then-wants_tries-clause-wave
returns-then-wants_tries-clause-wave c = c.tries.ensures.wave c.args.field

pub returns-then-wants_tries-clause-plan : goal.returns-then-wants_tries-clause-plan
returns-then-wants_tries-clause-plan c = c.tries.ensures.plan c.args.field (c.if-wants_tries.ensures.yes refl)
