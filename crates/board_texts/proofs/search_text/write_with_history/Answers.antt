use Rattle.board_texts.specs.PlayText.{best_line}
use Rattle.board_texts.specs.SearchText.{improved_text, outcome_text}
use Rattle.fixture_board.specs.History.{best_of}
use Rattle.byte_streams.proofs.Pieces.{Adds-stops, Adds-then, Adds-writes, Stops-more, Stops-writes}
use Rattle.board_texts.proofs.search_text.write_with_history.Goals as goal

pub returns-in_err-write_history : goal.returns-in_err-write_history
unfolding improved_text
returns-in_err-write_history g c =
    let b = c.args.board.now in
    Stops-writes c.from_residual.ensures.0
    (Stops-more (best_line (best_of b.league b.history)) (Stops-more (outcome_text b.league b.history) c.in_err-write_history.ensures.err))

pub returns-in_err-write_outcome : goal.returns-in_err-write_outcome
unfolding improved_text
returns-in_err-write_outcome g c =
    let b = c.args.board.now in
    Stops-writes c.from_residual-in_err-write_outcome.ensures.0
    (Stops-more (best_line (best_of b.league b.history)) (Adds-stops c.in_ok-write_history.ensures.ok c.in_err-write_outcome.ensures.err))

pub returns : goal.returns
unfolding improved_text
returns g c = Adds-writes (Adds-then c.in_ok-write_history.ensures.ok c.in_ok-write_outcome.ensures.ok) c.write_best.ensures
