use Rattle.std.proofs.Common.{rules}
use Rattle.commands.proofs.fault.ProgramFaultFromBoardFault.from.Goals as goal

pub returns-in-RoomRange : goal.returns-in-RoomRange
returns-in-RoomRange c = search rules

pub returns-in-Memory : goal.returns-in-Memory
returns-in-Memory c = search rules
