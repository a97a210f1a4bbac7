use Rattle.std.proofs.Common.{rules}
use Rattle.byte_streams.proofs.ends.RefMutSink.push.Goals as goal

pub returns : goal.returns
returns g c = search rules
