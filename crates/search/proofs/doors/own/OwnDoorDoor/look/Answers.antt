use Rattle.std.proofs.Common.{rules}
use Rattle.search.proofs.doors.own.OwnDoorDoor.look.Goals as goal

pub returns-clause-version : goal.returns-clause-version
returns-clause-version g c = search rules

pub returns-clause-cost : goal.returns-clause-cost
returns-clause-cost g c = search rules

pub returns-clause-copy : goal.returns-clause-copy
returns-clause-copy g c = search rules

pub returns-clause-same : goal.returns-clause-same
returns-clause-same g c = search rules
