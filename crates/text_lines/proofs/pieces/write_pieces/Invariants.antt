use Rattle.std.proofs.Common.{drop}
use Rattle.text_lines.proofs.Parts.{AddsAllBut}
use Rattle.text_lines.specs.Pieces.{text_of_pieces}
use Rattle.text_lines.proofs.pieces.write_pieces.Given as goal

abbrev pub invariant-loop-piece : goal.invariant-loop-piece
invariant-loop-piece g l =
    AddsAllBut g.W.Sink.held g.W.Sink.tally l.initial.out l.out (text_of_pieces l.pieces) (text_of_pieces (drop l.piece-index l.pieces))
