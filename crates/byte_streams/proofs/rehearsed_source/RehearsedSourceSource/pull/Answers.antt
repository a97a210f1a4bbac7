use Rattle.std.proofs.Common.{arith}
use Rattle.std.proofs.lemmas.Grind.{common_steps}
use Rattle.byte_streams.proofs.rehearsed_source.RehearsedSourceSource.pull.Goals as goal

pub returns : goal.returns
returns g c = grind (arith, common_steps)
