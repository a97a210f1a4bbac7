use Rattle.std.proofs.Common.{rules}
use Rattle.shared_board.proofs.shared.Seat.seen.Goals as goal

pub returns : goal.returns
returns c = search rules
