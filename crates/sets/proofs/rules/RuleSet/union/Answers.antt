use Rattle.sets.proofs.RuleWords.{has_rules_union, IsBelow_rules_union}
use Rattle.sets.proofs.SetBits.{IsBelow_union}
use Rattle.sets.proofs.rules.RuleSet.union.Goals as goal

pub invariant_of-result : goal.invariant_of-result
invariant_of-result c = (
  IsBelow_union 128 c.self.inside.low c.rules.inside.low c.self.invariant.0 c.rules.invariant.0,
  IsBelow_union 128 c.self.inside.high c.rules.inside.high c.self.invariant.1 c.rules.invariant.1,
)

pub returns-clause-members : goal.returns-clause-members
returns-clause-members c = λ r.
    rw (← c.self.view_is, ← c.rules.view_is)
    (has_rules_union c.self.inside.high c.self.inside.low c.rules.inside.high c.rules.inside.low r c.self.invariant.0 c.rules.invariant.0)

pub returns-clause-below : goal.returns-clause-below
returns-clause-below c =
    rw (← c.self.view_is, ← c.rules.view_is)
    (λ m below rules_below. IsBelow_rules_union m c.self.inside.high c.self.inside.low c.rules.inside.high c.rules.inside.low
    c.self.invariant.0 c.rules.invariant.0 below rules_below)
