use Rattle.board_texts.specs.PlayText.{best_line}
use Rattle.board_texts.specs.SearchText.{found_text}
use Rattle.fixture_board.specs.History.{best_of}
use Rattle.byte_streams.proofs.Pieces.{Adds-writes, Stops-more, Stops-writes}
use Rattle.board_texts.proofs.search_text.write_found.Goals as goal

pub returns-in_err-write_board : goal.returns-in_err-write_board
unfolding found_text
returns-in_err-write_board g c =
    let b = c.args.board.now in
    Stops-writes c.from_residual.ensures.0 (Stops-more (best_line (best_of b.league b.history)) c.in_err-write_board.ensures.err)

pub returns : goal.returns
unfolding found_text
returns g c = Adds-writes c.in_ok-write_board.ensures.ok c.write_best.ensures
