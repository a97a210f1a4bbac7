-- Texts that are written a piece at a time, by what is left of them.
use Rattle.std.proofs.Common.{◌≡◌, ℕ, ◌+◌, ◌<◌, add-one, List, [], ◌∷◌, ◌++◌, length, get_or, drop, Option, Result}
use Rattle.std.proofs.Common.{OnErr, refl, sym, subst, ◌∙◌, append_assoc, append-nil, drop-cons}
use Rattle.byte_streams.specs.declared.tally.Tally.{Tally}
use Rattle.byte_streams.specs.declared.buffered.BufferedSink.{BufferedSink}
use Rattle.byte_streams.specs.Sending.{AppendsPrefix}
use Rattle.byte_streams.specs.Writing.{Adds, Stops}
use Rattle.byte_streams.proofs.Pieces.{Adds-nothing, Adds-then, Adds-stops, Stops-more}
use Rattle.text_lines.specs.Pieces.{text_of_piece, text_of_pieces}
use Rattle.text_lines.specs.declared.pieces.Piece.{Piece}

-- of the text all but what is left was added
pub record AddsAllBut {S : Type 0} (held : S → Option (List ℕ)) (tally : S → Tally) (old new : BufferedSink S)
    (text left : List ℕ) : Type 0 where
  pub done : List ℕ
  pub parts : text ≡ done ++ left
  pub added : Adds held tally old new done

module _ {S : Type 0} {held : S → Option (List ℕ)} {tally : S → Tally} where
  pub none_added : (a : BufferedSink S) (text : List ℕ) → AddsAllBut held tally a a text text
  none_added a text = record { done = []; parts = refl; added = Adds-nothing a }

  pub one_added : {a b c : BufferedSink S} (text piece left : List ℕ) → AddsAllBut held tally a b text (piece ++ left) →
      Adds held tally b c piece
      → AddsAllBut held tally a c text left
  one_added text piece left so_far next = record {
    done = so_far.done ++ piece;
    parts = so_far.parts ∙ sym (append_assoc so_far.done piece left);
    added = Adds-then so_far.added next;
  }

  -- a write failed in the next piece
  pub one_stopped : {a b c : BufferedSink S} (text piece left : List ℕ) → AddsAllBut held tally a b text (piece ++ left) →
      Stops held tally b c piece
      → Stops held tally a c text
  one_stopped text piece left so_far next =
      let parts : text ≡ (so_far.done ++ piece) ++ left = so_far.parts ∙ sym (append_assoc so_far.done piece left) in
      rw parts (Stops-more left (Adds-stops so_far.added next))

  pub all_added : {a b : BufferedSink S} (text : List ℕ) → AddsAllBut held tally a b text [] → Adds held tally a b text
  all_added text so_far =
      let parts : text ≡ so_far.done = so_far.parts ∙ append-nil so_far.done in
      rw parts so_far.added

-- the text of pieces from one on
pub pieces_from : (pieces : List Piece) (i : ℕ) (p : Piece) → i < length pieces
    → text_of_pieces (drop i pieces) ≡ text_of_piece (get_or pieces i p) ++ text_of_pieces (drop (i + 1) pieces)
pieces_from pieces i p within =
    let here : drop i pieces ≡ get_or pieces i p ∷ drop (i + 1) pieces = rw (add-one, drop-cons pieces i p) refl in
    rw here refl

-- what an `Err` says of a sink, at another name of it
pub prefix_at : {S T E : Type 0} (held : S → Option (List ℕ)) (r : Result T E) (old : Option (List ℕ)) (text : List ℕ) (x y : S)
    → OnErr r (AppendsPrefix old (held x) text) → x ≡ y → OnErr r (AppendsPrefix old (held y) text)
prefix_at held r old text x y prefix same = subst (λ s. OnErr r (AppendsPrefix old (held s) text)) same prefix
