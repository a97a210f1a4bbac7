use Rattle.sets.proofs.RuleWords.{has_rules_common, IsBelow_rules_common}
use Rattle.sets.proofs.rules.RuleSet.intersection.Goals as goal

pub returns-clause-members : goal.returns-clause-members
returns-clause-members c = λ r.
    rw (← c.self.view_is, ← c.rules.view_is)
    (has_rules_common c.self.inside.high c.self.inside.low c.rules.inside.high c.rules.inside.low r c.self.invariant.0 c.rules.invariant.0)

pub returns-clause-below : goal.returns-clause-below
returns-clause-below c =
    rw (← c.self.view_is)
    (λ m below. IsBelow_rules_common m c.self.inside.high c.self.inside.low c.rules.inside.high c.rules.inside.low
    c.self.invariant.0 c.rules.invariant.0 below)
