use Rattle.std.proofs.Common.{arith, length, rules}
use Rattle.std.proofs.lemmas.Grind.{common_steps}
use Rattle.league_json.specs.League.{league_of_data}
use Rattle.league.specs.Views.{texts}
use Rattle.league.proofs.ForCallers.{origin_for_none}
use Rattle.league_json.proofs.reader.league_of_data.Goals as goal

pub new-requires-2 : goal.new-requires-2
new-requires-2 c =
    let origin = origin_for_none (length (texts c.in_ok-names.names.items)) c.in_ok-start.start (c.in_ok-start.ensures.fits _) in
    grind (arith, common_steps)

pub returns-clause-exact : goal.returns-clause-exact
unfolding league_of_data
returns-clause-exact c = grind (arith, common_steps)

pub returns-clause-limits : goal.returns-clause-limits
returns-clause-limits c = search rules
