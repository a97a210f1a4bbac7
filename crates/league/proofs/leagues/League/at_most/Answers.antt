use Rattle.std.proofs.Common.{rules}
use Rattle.league.proofs.leagues.League.at_most.Goals as goal

pub returns : goal.returns
returns c = search rules
