use Rattle.std.proofs.Common.{rules}
use Rattle.search.proofs.doors.own.OwnDoorDoor.propose.Goals as goal

pub returns-in-Done-clause-reply : goal.returns-in-Done-clause-reply
returns-in-Done-clause-reply g c = search rules

pub returns-in-Done-clause-board : goal.returns-in-Done-clause-board
returns-in-Done-clause-board g c = search rules

pub returns-in_default-clause-reply : goal.returns-in_default-clause-reply
returns-in_default-clause-reply g c = search rules

pub returns-in_default-clause-board : goal.returns-in_default-clause-board
returns-in_default-clause-board g c = search rules
