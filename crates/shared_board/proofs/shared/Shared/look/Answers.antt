use Rattle.shared_board.proofs.Ends.{Saw, seat_looked}
use Rattle.shared_board.proofs.shared.Shared.look.Goals as goal

pub invariant_of-seat : goal.invariant_of-seat
invariant_of-seat g c =
    let turn : Saw c.seat.inside.token.me c.take.new.token.me c.read-seen.new.token.me c.leave.new.token.me =
    record { took = c.take.ensures.took; same = c.read-seen.ensures.same.1; left = c.leave.ensures.done } in
    seat_looked _ _ _ _ _ _ c.seat.inside.seen _ _ c.seat.invariant turn c.read-seen.ensures.version
