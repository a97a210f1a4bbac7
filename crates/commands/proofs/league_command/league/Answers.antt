use Rattle.std.proofs.Common.{rules}
use Rattle.commands.proofs.league_command.league.Goals as goal

pub returns : goal.returns
returns g c = search rules
