use Rattle.std.proofs.Common.{rules}
use Rattle.byte_streams.proofs.ends.RefMutSource.pull.Goals as goal

pub returns : goal.returns
returns g c = search rules
