use Rattle.std.proofs.Common.{rules}
use Rattle.commands.proofs.fault.ProgramFaultFromAllocError.from.Goals as goal

pub returns : goal.returns
returns c = search rules
