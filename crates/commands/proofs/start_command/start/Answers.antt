use Rattle.std.proofs.Common.{rules}
use Rattle.commands.proofs.start_command.start.Goals as goal

pub returns : goal.returns
returns g c = search rules
