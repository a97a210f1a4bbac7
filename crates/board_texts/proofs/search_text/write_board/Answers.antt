use Rattle.board_texts.specs.SearchText.{best_sheet, moved_at_best}
use Rattle.byte_streams.proofs.Pieces.{Adds-stops, Adds-then, Adds-writes, Stops-more, Stops-writes}
use Rattle.board_texts.proofs.search_text.write_board.Goals as goal

pub returns-in_err-write_history : goal.returns-in_err-write_history
returns-in_err-write_history g c =
    let b = c.args.board.now in
    Stops-writes c.from_residual.ensures.0
    (Stops-more (moved_at_best b.league b.history) (Stops-more (best_sheet b.league b.history) c.in_err-write_history.ensures.err))

pub returns-in_err-write_best_sheet : goal.returns-in_err-write_best_sheet
returns-in_err-write_best_sheet g c =
    let b = c.args.board.now in
    Stops-writes c.from_residual-in_err-write_best_sheet.ensures.0
    (Stops-more (moved_at_best b.league b.history) (Adds-stops c.in_ok-write_history.ensures.ok c.in_err-write_best_sheet.ensures.err))

pub returns : goal.returns
returns g c = Adds-writes (Adds-then c.in_ok-write_history.ensures.ok c.in_ok-write_best_sheet.ensures.ok) c.write_moved.ensures
