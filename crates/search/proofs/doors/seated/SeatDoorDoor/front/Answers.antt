use Rattle.std.proofs.Common.{rules}
use Rattle.search.proofs.doors.seated.SeatDoorDoor.front.Goals as goal

pub returns-clause-later : goal.returns-clause-later
returns-clause-later g c = search rules

pub returns-clause-seat : goal.returns-clause-seat
returns-clause-seat g c = search rules
