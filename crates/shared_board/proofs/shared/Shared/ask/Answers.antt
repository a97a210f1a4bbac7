use Rattle.std.proofs.Common.{rules}
use Rattle.shared_board.proofs.shared.Shared.ask.Goals as goal

pub returns-in-Done : goal.returns-in-Done
returns-in-Done g c = search rules

pub returns-in-No : goal.returns-in-No
returns-in-No g c = search rules
