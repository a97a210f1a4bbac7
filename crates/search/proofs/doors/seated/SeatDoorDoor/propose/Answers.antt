use Rattle.std.proofs.Common.{rules}
use Rattle.search.proofs.SeatLaws.{answered_counted}
use Rattle.search.proofs.doors.seated.SeatDoorDoor.propose.Goals as goal

pub returns-clause-counted : goal.returns-clause-counted
returns-clause-counted g c = answered_counted _ _ _ _ c.propose.ensures

pub returns-clause-stays : goal.returns-clause-stays
returns-clause-stays g c = search rules

pub returns-clause-replied : goal.returns-clause-replied
returns-clause-replied g c = search rules

pub returns-clause-answered : goal.returns-clause-answered
returns-clause-answered g c = search rules
