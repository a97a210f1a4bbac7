use Rattle.std.proofs.Common.{rules}
use Rattle.league.proofs.made.constant.Goals as goal

pub returns : goal.returns
returns c = search rules
