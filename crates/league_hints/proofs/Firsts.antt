-- The first answer at a number below n, as a loop finds it.
use Rattle.std.proofs.Common.{◌≡◌, ℕ, zero, suc, ◌+◌, ◌<◌, Option, Some, None, refl, arith, inl, inr}
use Rattle.std.proofs.Math.Numerals.{suc-eq-add-one}
use Rattle.std.proofs.lemmas.Bool.{cases_eq}
use Rattle.league_hints.specs.Firsts.{first_below}

pub first_below_none : {A : Type 0} (f : ℕ → Option A) → first_below 0 f ≡ None
unfolding first_below
first_below_none f = refl

-- none so far, and none here
pub first_below_more : {A : Type 0} (n : ℕ) (f : ℕ → Option A) → first_below n f ≡ None → first_below (n + 1) f ≡ f n
unfolding first_below
first_below_more n f none = rw (← suc-eq-add-one n, none) refl

-- none so far, and this one here
pub first_below_found : {A : Type 0} (n k : ℕ) (f : ℕ → Option A) (x : A) → k < n → first_below k f ≡ None → f k ≡ Some x →
    first_below n f ≡ Some x
unfolding first_below
first_below_found zero k f x below none here = absurd (omega arith)
first_below_found (suc n) k f x below none here = elim (cases_eq k n) [
  | inl last ↦ rw (← last, none) here
  | inr other ↦ rw (first_below_found n k f x (omega arith) none here) refl
]

pub ruleset found_below = (first_below_none, first_below_more, first_below_found)
