use Rattle.std.proofs.Common.{refl, ap, ◌∙◌}
use Rattle.byte_streams.proofs.Pieces.{Stops-writes}
use Rattle.fixture_board.specs.Record.{Book}
use Rattle.board_texts.proofs.Answering.{at_err, none_answered, none_led, one_answered, one_failed, one_led, played_in_part}
use Rattle.board_texts.proofs.answers.write_answers.Goals as goal

pub loop-line-init : goal.loop-line-init
loop-line-init g c = record {
  answered = rw c.requires (none_answered _ _ _ _);
  led = rw c.requires (none_led _ _ _);
  same_league = refl;
  same_room = refl;
}

pub loop-line-preserved : goal.loop-line-preserved
loop-line-preserved g c =
    let i = c.loop-line.invariant in
    let e = c.in_ok-write_answer.ensures in
    let added = rw (i.same_league, i.same_room, c.parse_line.ensures) at e.writes.ok in
    record {
      answered = rw (e.board, e.slack, i.same_league, i.same_room, c.parse_line.ensures)
          (one_answered _ _ _ c.loop-line.rest.now c.in-Some.line.now c.next_line.new.text.now c.loop-line.board.history
          c.loop-line.slack c.loop-line.number
          i.answered (c.in-Some.ensures).some added);
      led = rw (e.board, e.slack, i.same_league, i.same_room, c.parse_line.ensures)
          (one_led _ _ _ c.loop-line.rest.now c.in-Some.line.now c.next_line.new.text.now c.loop-line.board.history
          c.loop-line.slack i.led (c.in-Some.ensures).some);
      same_league = ap (λ (b : Book). b.league) e.board ∙ i.same_league;
      same_room = ap (λ (b : Book). b.room) e.board ∙ i.same_room;
    }

pub returns-in_err-write_answer-clause-writes : goal.returns-in_err-write_answer-clause-writes
returns-in_err-write_answer-clause-writes g c =
    let i = c.loop-line.invariant in
    let stops = rw (i.same_league, i.same_room, c.parse_line.ensures) at c.in_err-write_answer.ensures.writes.err in
    Stops-writes c.from_residual.ensures.0
    (one_failed _ _ _ c.loop-line.rest.now c.in-Some.line.now c.next_line.new.text.now c.loop-line.board.history c.loop-line.slack
    c.loop-line.number
    i.answered (c.in-Some.ensures).some stops)

pub returns-in_err-write_answer-clause-stopped : goal.returns-in_err-write_answer-clause-stopped
returns-in_err-write_answer-clause-stopped g c =
    let i = c.loop-line.invariant in
    let led = one_led _ _ _ c.loop-line.rest.now c.in-Some.line.now c.next_line.new.text.now c.loop-line.board.history
    c.loop-line.slack i.led (c.in-Some.ensures).some in
    at_err c.from_residual.result (rw (c.in_err-write_answer.ensures.board, i.same_league, i.same_room, c.parse_line.ensures)
    (played_in_part _ _ _ _ _ _ led))
