use Rattle.std.proofs.lemmas.Grind.{common_steps}
use Rattle.std.proofs.Common.{arith, subst, sym}
use Rattle.std.specs.Str.Lines.{lines}
use Rattle.byte_streams.proofs.Pieces.{Adds-delivers, Adds-stops, Adds-then, Stops-delivers, Stops-more}
use Rattle.fixture_board.specs.Record.{book}
use Rattle.board_texts.specs.PlayText.{IsPlayedInPart, answers, closing_text, play_text, played}
use Rattle.board_texts.proofs.Answering.{at_err, played_all, played_none}
use Rattle.text_lines.proofs.ForCallers.{prefix_at}
use Rattle.board_texts.proofs.play_text.play_script.Goals as goal

pub returns-in_err-write_start-clause-prefix : goal.returns-in_err-write_start-clause-prefix
unfolding play_text
returns-in_err-write_start-clause-prefix g c =
    let b = c.args.board.now in let script = lines c.args.script.now in
    let stopped = Stops-more (closing_text b.league (played b.league b.room script))
    (Stops-more (answers b.league b.room script) (rw (c.cost.ensures.value, c.requires) at c.in_err-write_start.ensures.err)) in
    prefix_at g.W.Sink.held _ _ _ _ _ (Stops-delivers c.new-out.ensures c.from_residual.ensures.0 stopped).prefix (grind arith)

pub returns-in_err-write_start-clause-stopped : goal.returns-in_err-write_start-clause-stopped
returns-in_err-write_start-clause-stopped g c =
    let b = c.args.board.now in let script = lines c.args.script.now in
    at_err c.from_residual.result (subst (λ h. IsPlayedInPart b.league b.room script (book b.league b.room h)) (sym c.requires)
    (played_none b.league b.room script))

pub returns-in_err-write_answers-clause-prefix : goal.returns-in_err-write_answers-clause-prefix
unfolding play_text
returns-in_err-write_answers-clause-prefix g c =
    let b = c.args.board.now in
    let stopped = Stops-more (closing_text b.league (played b.league b.room (lines c.args.script.now)))
    (Adds-stops (rw (c.cost.ensures.value, c.requires) at c.in_ok-write_start.ensures.ok) c.in_err-write_answers.ensures.writes.err) in
    prefix_at g.W.Sink.held _ _ _ _ _
    (Stops-delivers c.new-out.ensures c.from_residual-in_err-write_answers.ensures.0 stopped).prefix (grind arith)

pub returns-in_err-write_closing-clause-prefix : goal.returns-in_err-write_closing-clause-prefix
unfolding play_text
returns-in_err-write_closing-clause-prefix g c =
    let stopped = Adds-stops
    (Adds-then (rw (c.cost.ensures.value, c.requires) at c.in_ok-write_start.ensures.ok) c.in_ok-write_answers.ensures.writes.ok)
    (rw c.in_ok-write_answers.ensures.board at c.in_err-write_closing.ensures.err) in
    prefix_at g.W.Sink.held _ _ _ _ _
    (Stops-delivers c.new-out.ensures c.from_residual-in_err-write_closing.ensures.0 stopped).prefix (grind arith)

pub returns-in_err-write_closing-clause-stopped : goal.returns-in_err-write_closing-clause-stopped
returns-in_err-write_closing-clause-stopped g c =
    let b = c.args.board.now in let script = lines c.args.script.now in
    at_err c.from_residual-in_err-write_closing.result (subst (IsPlayedInPart b.league b.room script)
    (sym c.in_ok-write_answers.ensures.board) (played_all b.league b.room script))

pub returns : goal.returns
unfolding play_text
returns g c =
    let added = Adds-then
    (Adds-then (rw (c.cost.ensures.value, c.requires) at c.in_ok-write_start.ensures.ok) c.in_ok-write_answers.ensures.writes.ok)
    (rw c.in_ok-write_answers.ensures.board at c.in_ok-write_closing.ensures.ok) in
    let delivered = Adds-delivers c.new-out.ensures added c.flush.ensures.writes c.flush.ensures.waiting in
    record {
      ok = grind (arith, common_steps, delivered.ok);
      prefix = prefix_at g.W.Sink.held _ _ _ _ _ delivered.prefix (grind arith);
      cause = grind (arith, common_steps, delivered.cause);
      board = grind (arith, common_steps);
      stopped = at_err c.flush.result (subst (IsPlayedInPart c.args.board.now.league c.args.board.now.room (lines c.args.script.now))
          (sym c.in_ok-write_answers.ensures.board) (played_all _ _ _));
    }
