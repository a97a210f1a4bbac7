use Rattle.std.proofs.Common.{rules}
use Rattle.search.proofs.runs.conclude.Goals as goal

pub returns-then-not-whole-clause-done : goal.returns-then-not-whole-clause-done
returns-then-not-whole-clause-done c = search rules

pub returns-then-not-whole-clause-refused : goal.returns-then-not-whole-clause-refused
returns-then-not-whole-clause-refused c = search rules

pub returns-clause-done : goal.returns-clause-done
returns-clause-done c = search rules

pub returns-clause-refused : goal.returns-clause-refused
returns-clause-refused c = search rules
