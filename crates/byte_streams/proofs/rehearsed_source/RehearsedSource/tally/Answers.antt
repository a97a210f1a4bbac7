use Rattle.std.proofs.Common.{rules}
use Rattle.byte_streams.proofs.rehearsed_source.RehearsedSource.tally.Goals as goal

pub returns : goal.returns
returns g c = search rules
