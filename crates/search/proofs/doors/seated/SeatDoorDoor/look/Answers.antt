use Rattle.std.proofs.Common.{rules}
use Rattle.search.proofs.SeatLaws.{looked_counted}
use Rattle.search.proofs.doors.seated.SeatDoorDoor.look.Goals as goal

pub returns-clause-counted : goal.returns-clause-counted
returns-clause-counted g c = looked_counted _ _ _ _ _ c.look.ensures

pub returns-clause-stays : goal.returns-clause-stays
returns-clause-stays g c = search rules

pub returns-clause-shown : goal.returns-clause-shown
returns-clause-shown g c = search rules

pub returns-clause-looked : goal.returns-clause-looked
returns-clause-looked g c = search rules
