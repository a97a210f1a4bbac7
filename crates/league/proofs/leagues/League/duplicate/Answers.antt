use Rattle.std.proofs.Common.{rules}
use Rattle.league.proofs.leagues.League.duplicate.Goals as goal

pub returns-in_err-names : goal.returns-in_err-names
returns-in_err-names c = search rules

pub returns-in_err-distances : goal.returns-in_err-distances
returns-in_err-distances c = search rules

pub returns-in_err-rules : goal.returns-in_err-rules
returns-in_err-rules c = search rules

pub returns : goal.returns
returns c = search rules
