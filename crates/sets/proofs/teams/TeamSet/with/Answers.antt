use Rattle.std.proofs.Common.{arith}
use Rattle.std.proofs.lemmas.Grind.{common_steps}
use Rattle.sets.proofs.SetWords.{teams_and_one}
use Rattle.sets.proofs.teams.TeamSet.with.Goals as goal

pub returns-clause-value : goal.returns-clause-value
returns-clause-value c = grind (arith, common_steps, teams_and_one)

pub returns-clause-members : goal.returns-clause-members
returns-clause-members c = grind (arith, common_steps, teams_and_one)
