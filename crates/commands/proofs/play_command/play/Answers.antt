use Rattle.std.proofs.Common.{rules}
use Rattle.commands.proofs.play_command.play.Goals as goal

pub returns : goal.returns
returns g c = search rules
