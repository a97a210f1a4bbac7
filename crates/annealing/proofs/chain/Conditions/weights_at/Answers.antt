use Rattle.std.proofs.Common.{arith}
use Rattle.std.proofs.lemmas.Grind.{common_steps}
use Rattle.annealing.proofs.chain.Conditions.weights_at.Goals as goal

pub returns-in-Some-clause-value : goal.returns-in-Some-clause-value
returns-in-Some-clause-value c = grind (arith, common_steps)

pub returns-in-None-clause-value : goal.returns-in-None-clause-value
returns-in-None-clause-value c = grind (arith, common_steps)

pub returns-in-Some-clause-are : goal.returns-in-Some-clause-are
returns-in-Some-clause-are c = record {
  positive = c.weight-breach.ensures.least;
  fit = omega (arith, c.saturating_sub-rule.ensures);
}

pub returns-in-None-clause-are : goal.returns-in-None-clause-are
returns-in-None-clause-are c = record { positive = c.weight-breach.ensures.least; fit = omega arith }
