use Rattle.std.proofs.Common.{◌∷◌, [], codes, decimal}
use Rattle.std.specs.List.{concat}
use Rattle.byte_streams.proofs.Pieces.{Adds-writes, Stops-more, Stops-writes}
use Rattle.board_texts.specs.SearchText.{best_sheet}
use Rattle.improvement.proofs.leg_text.write_best.Goals as goal

pub returns-in_err-write_best_sheet : goal.returns-in_err-write_best_sheet
unfolding best_sheet
returns-in_err-write_best_sheet g c =
    Stops-writes c.from_residual.ensures.0
    (Stops-more (concat (codes "best " ∷ decimal c.args.total ∷ codes "\n----------\n" ∷ []))
    c.in_err-write_best_sheet.ensures.err)

pub returns : goal.returns
unfolding best_sheet
returns g c = Adds-writes c.in_ok-write_best_sheet.ensures.ok c.write_pieces.ensures
