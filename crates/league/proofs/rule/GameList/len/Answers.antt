use Rattle.std.proofs.Common.{arith, rules}
use Rattle.league.proofs.GameLists.{length-le-IsGameList}
use Rattle.league.proofs.rule.GameList.len.Goals as goal

pub returns-clause-most : goal.returns-clause-most
returns-clause-most c = omega (arith, length-le-IsGameList _ c.self.invariant)

pub returns-clause-value : goal.returns-clause-value
returns-clause-value c = search rules

pub returns-clause-games : goal.returns-clause-games
returns-clause-games c = search rules
