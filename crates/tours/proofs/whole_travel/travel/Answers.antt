use Rattle.std.proofs.Common.{arith, rules}
use Rattle.std.proofs.lemmas.Grind.{common_steps}
use Rattle.league.proofs.ForCallers.{sums}
use Rattle.tours.specs.Tours.{travel}
use Rattle.tours.proofs.whole_travel.travel.Goals as goal

pub returns-clause-value : goal.returns-clause-value
unfolding travel
returns-clause-value c = grind (arith, common_steps, sums)

pub returns-clause-limit : goal.returns-clause-limit
returns-clause-limit c = search rules
