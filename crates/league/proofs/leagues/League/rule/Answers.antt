use Rattle.std.proofs.Common.{arith}
use Rattle.std.proofs.lemmas.Grind.{common_steps}
use Rattle.league.proofs.leagues.League.rule.Goals as goal

pub returns-clause-range : goal.returns-clause-range
returns-clause-range c = grind (arith, common_steps)
