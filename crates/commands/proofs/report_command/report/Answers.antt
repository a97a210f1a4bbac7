use Rattle.std.proofs.Common.{rules}
use Rattle.commands.proofs.report_command.report.Goals as goal

pub returns : goal.returns
returns g c = search rules
