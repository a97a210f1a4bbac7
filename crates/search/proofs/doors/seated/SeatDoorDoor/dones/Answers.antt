use Rattle.std.proofs.Common.{rules}
use Rattle.search.proofs.doors.seated.SeatDoorDoor.dones.Goals as goal

pub returns : goal.returns
returns c = search rules
