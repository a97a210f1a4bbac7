-- What private functions alone need beside specs/Pieces.antt.
use Rattle.std.specs.Prelude.{ℕ, List, [], ◌∷◌, ◌++◌, decimal}
use Rattle.report_page.specs.declared.pieces.PagePiece.{PagePiece}
use Rattle.report_page.specs.declared.pieces.PagePiece.TheVariants.{Raw, Name, Number}
use Rattle.report_page.specs.Pieces.{escaped}

abbrev pub text_of_piece : PagePiece → List ℕ
text_of_piece (Raw text) = text.now
text_of_piece (Name text) = escaped text.now
text_of_piece (Number number) = decimal number

-- the pieces, one after another
abbrev pub text_of_pieces : List PagePiece → List ℕ
text_of_pieces [] = []
text_of_pieces (piece ∷ pieces) = text_of_piece piece ++ text_of_pieces pieces
