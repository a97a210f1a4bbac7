use Rattle.std.proofs.Common.{rules}
use Rattle.shared_board.proofs.shared.Shared.unpin.Goals as goal

pub returns : goal.returns
returns g c = search rules
