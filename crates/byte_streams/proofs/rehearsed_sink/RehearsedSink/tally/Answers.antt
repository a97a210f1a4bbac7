use Rattle.std.proofs.Common.{rules}
use Rattle.byte_streams.proofs.rehearsed_sink.RehearsedSink.tally.Goals as goal

pub returns : goal.returns
returns g c = search rules
