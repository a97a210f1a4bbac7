use Rattle.std.proofs.Common.{rules}
use Rattle.shared_board.proofs.Seating.{glance_keeps}
use Rattle.shared_board.proofs.shared.Shared.front.Goals as goal

pub load-requires : goal.load-requires
load-requires c = (search rules, search rules, glance_keeps _ _ _ c.seat.invariant.idle.live c.seat.invariant.idle.away_is)

pub returns-clause-seen : goal.returns-clause-seen
returns-clause-seen c = search rules

pub returns-clause-later : goal.returns-clause-later
returns-clause-later c = search rules

pub returns-clause-seat : goal.returns-clause-seat
returns-clause-seat c = search rules
