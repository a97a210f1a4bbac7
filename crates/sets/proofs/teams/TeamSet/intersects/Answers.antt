use Rattle.std.proofs.Common.{arith}
use Rattle.std.proofs.lemmas.Grind.{common_steps}
use Rattle.sets.proofs.SetWords.{teams_meet}
use Rattle.sets.proofs.teams.TeamSet.intersects.Goals as goal

pub returns : goal.returns
returns c = grind (arith, common_steps, teams_meet)
