use Rattle.std.proofs.Common.{rules}
use Rattle.byte_streams.proofs.writer_sink.WriterSink.new.Goals as goal

pub returns : goal.returns
returns g c = search rules
