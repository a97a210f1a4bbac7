use Rattle.std.proofs.Common.{rules}
use Rattle.commands.proofs.improve_command.improve.Goals as goal

pub returns : goal.returns
returns g c = search rules
