-- Lines that are made of texts and numbers.
use Rattle.std.specs.Prelude.{ℕ, List, [], ◌∷◌, ◌++◌, decimal}
use Rattle.text_lines.specs.declared.pieces.Piece.{Piece}
use Rattle.text_lines.specs.declared.pieces.Piece.TheVariants.{Text, Number}

abbrev pub text_of_piece : Piece → List ℕ
text_of_piece (Text text) = text.now
text_of_piece (Number number) = decimal number

-- the pieces, one after another
abbrev pub text_of_pieces : List Piece → List ℕ
text_of_pieces [] = []
text_of_pieces (piece ∷ pieces) = text_of_piece piece ++ text_of_pieces pieces
