use Rattle.std.proofs.Common.{arith}
use Rattle.std.proofs.lemmas.Grind.{common_steps}
use Rattle.sets.proofs.SetWords.{teams_without}
use Rattle.sets.proofs.teams.TeamSet.difference.Goals as goal

pub returns-clause-members : goal.returns-clause-members
returns-clause-members c = grind (arith, common_steps, teams_without)
