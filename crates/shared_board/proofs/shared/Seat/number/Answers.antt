use Rattle.std.proofs.Common.{rules}
use Rattle.shared_board.proofs.shared.Seat.number.Goals as goal

pub returns-clause-value : goal.returns-clause-value
returns-clause-value c = search rules

pub returns-clause-seat : goal.returns-clause-seat
returns-clause-seat c = search rules
