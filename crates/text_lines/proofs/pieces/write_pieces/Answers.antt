use Rattle.std.proofs.Common.{[]}
use Rattle.byte_streams.proofs.Pieces.{Stops-writes}
use Rattle.text_lines.proofs.Parts.{one_added, one_stopped, pieces_from}
use Rattle.text_lines.specs.declared.pieces.Piece.TheVariants.{Text}
use Rattle.text_lines.proofs.pieces.write_pieces.Goals as goal

pub loop-piece-preserved : goal.loop-piece-preserved
loop-piece-preserved g c =
    let next = pieces_from c.args.pieces.now c.loop-piece.piece-index
    (Text (record { ref_ptr = (0, 0); now = [] })) c.loop-piece-test.true in
    one_added _ _ _ (rw next at c.loop-piece.invariant) c.in_ok-write_piece.ensures.ok

pub returns-in_err-write_piece : goal.returns-in_err-write_piece
returns-in_err-write_piece g c =
    let next = pieces_from c.args.pieces.now c.loop-piece.piece-index
    (Text (record { ref_ptr = (0, 0); now = [] })) c.loop-piece-test.true in
    Stops-writes c.from_residual.ensures.0 (one_stopped _ _ _ (rw next at c.loop-piece.invariant) c.in_err-write_piece.ensures.err)
