use Rattle.std.proofs.Common.{arith}
use Rattle.rules.proofs.limits.PartLimits.{terms_below}
use Rattle.rules.proofs.parts.deviation_part.Goals as goal

pub returns-clause-below : goal.returns-clause-below
returns-clause-below c = rw c.changing_terms.ensures
    (terms_below _ _ _ _ _ (omega (arith, c.teams.ensures.number, c.teams.ensures.most)) c.requires.body)
