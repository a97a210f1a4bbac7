use Rattle.std.proofs.Common.{refl, sym, ◌∙◌, ap}
use Rattle.annealing.specs.within.Boards.{better}
use Rattle.annealing.proofs.Rooms.{with_room-as_is, with_room-back, with_room-anew}
use Rattle.annealing.proofs.boards.Boards.make_room.Goals as goal

pub returns-then-has_room_for : goal.returns-then-has_room_for
returns-then-has_room_for c = with_room-as_is c.args.self.now (sym c.has_room_for.ensures ∙ c.if-has_room_for.true)

pub returns-then-has_room_for-2 : goal.returns-then-has_room_for-2
returns-then-has_room_for-2 c =
    with_room-back c.args.self.now c.rewind_to_best.new.self c.rewind_to_best.ensures (sym c.has_room_for.ensures ∙ c.if-has_room_for.false)
    (sym c.has_room_for-2.ensures ∙ c.if-has_room_for-2.true)

pub returns : goal.returns
returns c =
    with_room-anew c.args.self.now _ c.rewind_to_best.new.self c.replace-full.new.dest c.better.result c.rewind_to_best.ensures
    (sym c.has_room_for.ensures ∙ c.if-has_room_for.false) (sym c.has_room_for-2.ensures ∙ c.if-has_room_for-2.false)
    (c.replace-full.ensures.after ∙ c.in_ok-board.ensures)
    (c.better.ensures ∙ ap (λ p. better p c.replace-full.result) c.take.ensures.value ∙ ap (better c.args.self.now.parked) c.replace-full.ensures.value)
    refl
