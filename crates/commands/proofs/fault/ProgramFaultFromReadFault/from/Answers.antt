use Rattle.std.proofs.Common.{rules}
use Rattle.commands.proofs.fault.ProgramFaultFromReadFault.from.Goals as goal

pub returns-in-Read : goal.returns-in-Read
returns-in-Read c = search rules

pub returns-in-TooLong : goal.returns-in-TooLong
returns-in-TooLong c = search rules

pub returns-in-Memory : goal.returns-in-Memory
returns-in-Memory c = search rules
