use Rattle.std.proofs.Common.{rules}
use Rattle.search.proofs.doors.own.OwnDoorDoor.dones.Goals as goal

pub returns : goal.returns
returns c = search rules
