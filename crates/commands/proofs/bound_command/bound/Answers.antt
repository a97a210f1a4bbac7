use Rattle.std.proofs.Common.{rules}
use Rattle.commands.proofs.bound_command.bound.Goals as goal

pub returns : goal.returns
returns g c = search rules
