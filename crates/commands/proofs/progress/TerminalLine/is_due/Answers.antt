use Rattle.std.proofs.Common.{rules}
use Rattle.commands.proofs.progress.TerminalLine.is_due.Goals as goal

pub returns-then-due-clause-due : goal.returns-then-due-clause-due
returns-then-due-clause-due g c = search rules

pub returns-then-due-clause-last : goal.returns-then-due-clause-last
returns-then-due-clause-last g c = search rules

pub returns-else-is_none-clause-due : goal.returns-else-is_none-clause-due
returns-else-is_none-clause-due g c = search rules

pub returns-else-is_none-clause-last : goal.returns-else-is_none-clause-last
returns-else-is_none-clause-last g c = search rules
