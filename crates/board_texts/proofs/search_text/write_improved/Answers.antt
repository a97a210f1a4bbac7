use Rattle.board_texts.specs.SearchText.{improved_text, total_line}
use Rattle.fixture_board.specs.History.{best_of}
use Rattle.byte_streams.proofs.Pieces.{Adds-writes, Stops-more, Stops-writes}
use Rattle.board_texts.proofs.search_text.write_improved.Goals as goal

pub returns-then-history : goal.returns-then-history
returns-then-history g c = rw c.if-history.true c.write_with_history.ensures

pub returns-in_err-write_outcome : goal.returns-in_err-write_outcome
unfolding improved_text
returns-in_err-write_outcome g c =
    let b = c.args.board.now in
    rw c.if-history.false (Stops-writes c.from_residual.ensures.0
    (Stops-more (total_line (best_of b.league b.history)) c.in_err-write_outcome.ensures.err))

pub returns-in_ok-write_outcome : goal.returns-in_ok-write_outcome
unfolding improved_text
returns-in_ok-write_outcome g c =
    rw (c.if-history.false, ← c.best.ensures.value) (Adds-writes c.in_ok-write_outcome.ensures.ok c.write_total.ensures)
