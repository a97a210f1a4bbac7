use Rattle.std.proofs.Common.{rules}
use Rattle.league.proofs.leagues.League.rule_count.Goals as goal

pub returns : goal.returns
returns c = search rules
