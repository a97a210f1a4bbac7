use Rattle.board_texts.specs.SearchText.{least_hard_text, moved_at_best}
use Rattle.byte_streams.proofs.Pieces.{Adds-stops, Adds-then, Adds-writes, Stops-more, Stops-writes}
use Rattle.board_texts.proofs.search_text.write_outcome.Goals as goal

pub returns-in_err-write_best_sheet : goal.returns-in_err-write_best_sheet
returns-in_err-write_best_sheet g c =
    let b = c.args.board.now in
    Stops-writes c.from_residual.ensures.0
    (Stops-more (least_hard_text b.league b.history) (Stops-more (moved_at_best b.league b.history) c.in_err-write_best_sheet.ensures.err))

pub returns-in_err-write_moved : goal.returns-in_err-write_moved
returns-in_err-write_moved g c =
    let b = c.args.board.now in
    Stops-writes c.from_residual-in_err-write_moved.ensures.0
    (Stops-more (least_hard_text b.league b.history) (Adds-stops c.in_ok-write_best_sheet.ensures.ok c.in_err-write_moved.ensures.err))

pub returns : goal.returns
returns g c = Adds-writes (Adds-then c.in_ok-write_best_sheet.ensures.ok c.in_ok-write_moved.ensures.ok) c.write_broken.ensures
