use Rattle.std.proofs.Common.{rules}
use Rattle.league.proofs.rule.GameListClone.clone.Goals as goal

pub returns-in_err-clone : goal.returns-in_err-clone
returns-in_err-clone c = search rules
