use Rattle.std.proofs.Common.{◌+◌, [], rules, ap, subst, ◌∙◌}
use Rattle.shared_board.specs.declared.view.View.{View}
use Rattle.shared_board.specs.Stage.{away}
use Rattle.shared_board.specs.within.Plays.{Token, at_stage, drawer}
use Rattle.shared_board.specs.Seats.{BoardId, SeatValue, seat_value, given_at, IsNew}
use Rattle.shared_board.proofs.Seating.{split_keeps}
use Rattle.shared_board.proofs.Ends.{Read, read_own, drawn_away, new_seat, is_new}
use Rattle.shared_board.proofs.shared.Shared.split.Goals as goal

pub draw-requires-clause-own : goal.draw-requires-clause-own
draw-requires-clause-own g c =
    let read : Read c.seat.inside.token.me c.take.new.token.me c.count-number.new.token.me c.count-number.result =
    record { took = c.take.ensures.took; count = c.count-number.ensures.counted } in
    (c.seat.inside.number, read_own _ _ _ _ _ read c.seat.invariant.own)

pub split_seat-token-requires : goal.split_seat-token-requires
split_seat-token-requires g c =
    let left = ap (λ (m : Token). m.0) c.quit-2.ensures.done in
    (search rules, search rules, split_keeps _ _ (search rules) (ap (λ (v : View). v.stage) left))

pub invariant_of-result : goal.invariant_of-result
invariant_of-result g c =
    let read : Read c.seat.inside.token.me c.take.new.token.me c.count-number.new.token.me c.count-number.result =
    record { took = c.take.ensures.took; count = c.count-number.ensures.counted } in
    let left = c.quit-2.ensures.done ∙ ap (λ (m : Token). (at_stage m.0 away, [])) c.draw.ensures.done in
    new_seat _ _ _ _ _ _ _ _ _ _ c.seat.invariant read left c.split_seat-token.ensures.4

pub returns : goal.returns
returns g c =
    let read : Read c.seat.inside.token.me c.take.new.token.me c.count-number.new.token.me c.count-number.result =
    record { took = c.take.ensures.took; count = c.count-number.ensures.counted } in
    let left = c.quit-2.ensures.done ∙ ap (λ (m : Token). (at_stage m.0 away, [])) c.draw.ensures.done in
    let number = c.seat.inside.number in let r = c.count-number.result in
    let table = c.seat.inside.token.table_id in let after = c.split_seat-token.result.table_id in let done =
    c.split_seat-token.new.seat.me in
    let same = c.quit-2.ensures.same ∙ (c.draw.ensures.same ∙ (c.count-number.ensures.same ∙ c.take.ensures.same)) in
    let P : SeatValue → Type 0 = λ a. IsNew a (seat_value after r c.split_seat-token.result.me.0) in (
      ap (λ (t : BoardId). seat_value t number done.0) (c.split_seat-token.ensures.0 ∙ same)
          ∙ (ap (λ (m : Token). seat_value table number m.0) c.split_seat-token.ensures.2 ∙
          (ap (λ (m : Token). seat_value table number (drawer m.0)) left ∙
          (ap (λ (v : View). seat_value table number (drawer v)) (drawn_away _ _ _ _ read) ∙
          ap (λ (a : SeatValue). given_at a (r + 1)) c.seat.view_is))),
      subst P c.seat.view_is (is_new table after _ _ _ _ _ r number _ _ _
          (c.split_seat-token.ensures.3 ∙ same) c.if-number-ge-MAX_SEATS.false c.seat.invariant read left c.split_seat-token.ensures.4),
    )
