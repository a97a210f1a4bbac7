use Rattle.std.proofs.Common.{rules}
use Rattle.byte_streams.proofs.reader_source.ReaderSourceSource.pull.Goals as goal

pub returns : goal.returns
returns g c = search rules
