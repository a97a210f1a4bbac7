use Rattle.std.proofs.Common.{rules}
use Rattle.sets.proofs.teams.TeamSetIntoIterator.into_iter.Goals as goal

pub returns : goal.returns
returns c = search rules
