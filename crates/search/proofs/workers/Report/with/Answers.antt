use Rattle.std.proofs.Common.{rules}
use Rattle.search.proofs.workers.Report.with.Goals as goal

pub returns-in-Nothing : goal.returns-in-Nothing
returns-in-Nothing c = search rules

pub returns-in-Accepted : goal.returns-in-Accepted
returns-in-Accepted c = search rules

pub returns-in-Refused : goal.returns-in-Refused
returns-in-Refused c = search rules
