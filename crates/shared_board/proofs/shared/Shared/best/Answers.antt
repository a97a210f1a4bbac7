use Rattle.std.proofs.Common.{rules}
use Rattle.shared_board.proofs.Seating.{lower_keeps}
use Rattle.shared_board.proofs.shared.Shared.best.Goals as goal

pub load-total-requires : goal.load-total-requires
load-total-requires c = (search rules, search rules, lower_keeps _ _ _ c.seat.invariant.idle.live c.seat.invariant.idle.away_is)

pub returns-clause-lower : goal.returns-clause-lower
returns-clause-lower c = search rules

pub returns-clause-seat : goal.returns-clause-seat
returns-clause-seat c = search rules

pub returns-clause-some : goal.returns-clause-some
returns-clause-some c = search rules
