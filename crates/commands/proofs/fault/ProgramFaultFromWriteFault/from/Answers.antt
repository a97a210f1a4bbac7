use Rattle.std.proofs.Common.{rules}
use Rattle.commands.proofs.fault.ProgramFaultFromWriteFault.from.Goals as goal

pub returns : goal.returns
returns c = search rules
