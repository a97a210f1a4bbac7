-- Parts that are added to a text one after another.
use Rattle.std.proofs.Common.{◌≡◌, ℕ, List, [], ◌∷◌, ◌++◌, append_assoc, append-nil, Result, Ok, Err, OnOk, is_ok, if◌then◌else◌}
use Rattle.std.specs.List.{concat}

pub five_added : (old s t u v new a b c d e : List ℕ) → s ≡ old ++ a → t ≡ s ++ b → u ≡ t ++ c → v ≡ u ++ d → new ≡ v ++ e
    → new ≡ old ++ concat (a ∷ b ∷ c ∷ d ∷ e ∷ [])
five_added old s t u v new a b c d e first second third fourth fifth =
    rw (fifth, fourth, third, second, first) (simp (append_assoc, append-nil))

-- what a call says that adds nothing where it fails
pub grown : {T E : Type 0} (r : Result T E) (new whole old : List ℕ) → new ≡ (if is_ok r then whole else old) → OnOk r (new ≡ whole)
grown (Ok x) new whole old is = is
grown (Err e) new whole old is = tt
