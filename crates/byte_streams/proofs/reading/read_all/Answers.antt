use Rattle.std.proofs.Common.{rules}
use Rattle.byte_streams.proofs.reading.read_all.Goals as goal

pub returns-in-Failed : goal.returns-in-Failed
returns-in-Failed g c = search rules

pub returns : goal.returns
returns g c = search rules
