-- The first number with the largest value, one number further.
use Rattle.std.proofs.Common.{◌≡◌, ℕ, ◌+◌, ◌<◌, ◌≤◌, max, refl, arith}
use Rattle.std.proofs.Math.Numerals.{suc-eq-add-one}
use Rattle.std.proofs.lemmas.Bool.{lt-ltb, le-ltb}
use Rattle.rules.specs.Deviations.{largest_below}
use Rattle.report_breaches.specs.Breaches.{first_largest}

pub largest_below_none : (value : ℕ → ℕ) → largest_below 0 value ≡ 0
unfolding largest_below
largest_below_none value = refl

pub first_largest_none : (value : ℕ → ℕ) → first_largest 0 value ≡ 0
unfolding first_largest
first_largest_none value = refl

module _ (n : ℕ) (value : ℕ → ℕ) where
  pub first_is_here : largest_below n value < value n → first_largest (n + 1) value ≡ n
  unfolding first_largest
  first_is_here larger = rw (← suc-eq-add-one n) (rw (lt-ltb (largest_below n value) (value n) larger) refl)

  pub first_was_before : value n ≤ largest_below n value → first_largest (n + 1) value ≡ first_largest n value
  unfolding first_largest
  first_was_before least = rw (← suc-eq-add-one n) (rw (le-ltb (largest_below n value) (value n) least) refl)

  largest_below_more : largest_below (n + 1) value ≡ max (largest_below n value) (value n)
  unfolding largest_below
  largest_below_more = rw (← suc-eq-add-one n) refl

  pub largest_is_here : largest_below n value < value n → largest_below (n + 1) value ≡ value n
  largest_is_here larger = omega (arith, largest_below_more)

  pub largest_was_before : value n ≤ largest_below n value → largest_below (n + 1) value ≡ largest_below n value
  largest_was_before least = omega (arith, largest_below_more)
