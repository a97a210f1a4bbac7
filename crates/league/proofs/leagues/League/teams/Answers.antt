use Rattle.std.proofs.Common.{arith, rules}
use Rattle.std.proofs.lemmas.Grind.{common_steps}
use Rattle.league.proofs.leagues.League.teams.Goals as goal

pub returns-clause-value : goal.returns-clause-value
returns-clause-value c = grind (arith, common_steps)

pub returns-clause-least : goal.returns-clause-least
returns-clause-least c = grind (arith, common_steps)

pub returns-clause-most : goal.returns-clause-most
returns-clause-most c = grind (arith, common_steps)

pub returns-clause-even : goal.returns-clause-even
returns-clause-even c = grind (arith, common_steps)

pub returns-clause-limits : goal.returns-clause-limits
returns-clause-limits c = search rules
