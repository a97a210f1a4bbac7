use Rattle.std.proofs.Common.{rules}
use Rattle.search.proofs.doors.own.OwnDoorDoor.front.Goals as goal

pub returns-clause-same : goal.returns-clause-same
returns-clause-same g c = search rules

pub returns-clause-length : goal.returns-clause-length
returns-clause-length g c = search rules
