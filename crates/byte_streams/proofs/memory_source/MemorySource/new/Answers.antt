use Rattle.std.proofs.Common.{rules}
use Rattle.byte_streams.proofs.memory_source.MemorySource.new.Goals as goal

pub returns : goal.returns
returns c = search rules
