-- A set with one number added.
use Rattle.std.proofs.Common.{◌≡◌, ℕ, ◌⊎◌, inl, inr, Bool, false, ◌||◌, eqb, refl, sym, ◌∙◌}
use Rattle.std.specs.Prelude.{IsTrue}
use Rattle.std.proofs.lemmas.Bool.{or_cases, or_left, or_right, eqb-true, eq-eqb, false≢true}

-- the new set has the number, and what the old one has
abbrev pub Adds : ℕ → (ℕ → Bool) → (ℕ → Bool) → Type 0
Adds x old new = (y : ℕ) → new y ≡ (eqb y x || old y)

pub Adds-new : (x : ℕ) (old new : ℕ → Bool) → Adds x old new → IsTrue (new x)
Adds-new x old new adds = adds x ∙ or_left (eqb x x) (old x) (eq-eqb x x refl)

pub Adds-old : (x : ℕ) (old new : ℕ → Bool) → Adds x old new → (y : ℕ) → IsTrue (old y) → IsTrue (new y)
Adds-old x old new adds y here = adds y ∙ or_right (eqb y x) (old y) here

pub Adds-cases : (x : ℕ) (old new : ℕ → Bool) → Adds x old new → (y : ℕ) → IsTrue (new y) → (y ≡ x) ⊎ IsTrue (old y)
Adds-cases x old new adds y here =
    elim (or_cases (eqb y x) (old y) (sym (adds y) ∙ here)) [ inl e ↦ inl (eqb-true y x e) | inr old ↦ inr old ]

-- the set with the number, as a test
abbrev pub with_added : ℕ → (ℕ → Bool) → ℕ → Bool
with_added x set y = eqb y x || set y

-- a set of one number
pub only-new : (x : ℕ) (none set : ℕ → Bool) → ((y : ℕ) → none y ≡ false) → Adds x none set → (y : ℕ) →
    IsTrue (set y) → y ≡ x
only-new x none set empty adds y here =
    elim (Adds-cases x none set adds y here) [ inl e ↦ e | inr listed ↦ absurd (false≢true (sym (empty y) ∙ listed)) ]
