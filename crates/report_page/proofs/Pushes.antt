-- Pieces that are added to a text one after another.
use Rattle.std.proofs.Common.{◌≡◌, ◌∙◌, ap, ℕ, ◌+◌, add-one, List, [], ◌++◌, Result, Ok, Err, OnOk, append_assoc, append-nil}
use Rattle.byte_streams.specs.Pieces.{pieces_below}

pub piece_added : (a b c : List ℕ) (piece : ℕ → List ℕ) (n : ℕ) → b ≡ a ++ pieces_below piece n → c ≡ b ++ piece n →
    c ≡ a ++ pieces_below piece (n + 1)
piece_added a b c piece n so_far next = rw (add-one, next, so_far) (append_assoc a (pieces_below piece n) (piece n))

both_added : (a b c p q : List ℕ) → b ≡ a ++ p → c ≡ b ++ q → c ≡ a ++ (p ++ q)
both_added a b c p q first second = rw (second, first) (append_assoc a p q)

-- a text behind one piece
pub added_behind : {T E : Type 0} (r : Result T E) (a b c p q : List ℕ) → b ≡ a ++ (p ++ []) → OnOk r (c ≡ b ++ q) →
    OnOk r (c ≡ a ++ (p ++ q))
added_behind (Ok x) a b c p q first second = both_added a b c p q (first ∙ ap (λ t. a ++ t) (append-nil p)) second
added_behind (Err e) a b c p q first second = tt

-- two texts behind one piece
pub both_behind : {T E : Type 0} (r : Result T E) (a b c d p q s : List ℕ) → b ≡ a ++ (p ++ []) → c ≡ b ++ q →
    OnOk r (d ≡ c ++ s) → OnOk r (d ≡ a ++ (p ++ q ++ s))
both_behind (Ok x) a b c d p q s first second last =
    both_added a c d (p ++ q) s (both_added a b c p q (first ∙ ap (λ t. a ++ t) (append-nil p)) second) last
both_behind (Err e) a b c d p q s first second last = tt

-- a text that is one piece, another text, and one piece more
pub added_between : {T E : Type 0} (r : Result T E) (a b c d p q s : List ℕ) → b ≡ a ++ (p ++ []) → c ≡ b ++ q →
    OnOk r (d ≡ c ++ (s ++ [])) → OnOk r (d ≡ a ++ (p ++ q ++ s))
added_between r a b c d p q s first second last = both_behind r a b c d p q s first second (rw (append-nil s) at last)
