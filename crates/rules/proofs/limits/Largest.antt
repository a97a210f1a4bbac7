-- Laws of the largest value below a number.
use Rattle.std.proofs.Common.{◌≡◌, ℕ, zero, suc, ◌+◌, ◌<◌, ◌≤◌, ◌*◌, max, refl, inl, inr, sym, ◌∙◌, ap, arith}
use Rattle.std.specs.Ordering.{ord_max, nat_cmp}
use Rattle.std.proofs.Math.Nat.{add-zero, add-suc}
use Rattle.std.proofs.Math.Numerals.{suc-eq-add-one}
use Rattle.std.proofs.lemmas.Bool.Decides.{nat_tests}
use Rattle.std.proofs.lemmas.Bool.{cases_eq}
use Rattle.rules.specs.Deviations.{largest_below}

pub largest_below_same : (n : ℕ) (f g : ℕ → ℕ) → ((k : ℕ) → k < n → f k ≡ g k) → largest_below n f ≡ largest_below n g
unfolding largest_below
largest_below_same zero f g same = refl
largest_below_same (suc n) f g same =
    omega (arith, largest_below_same n f g (λ k below. same k (omega arith)), same n (omega arith))

pub largest_below_le : (n most : ℕ) (f : ℕ → ℕ) → ((k : ℕ) → k < n → f k ≤ most) → largest_below n f ≤ most
unfolding largest_below
largest_below_le zero most f each = omega arith
largest_below_le (suc n) most f each =
    omega (arith, largest_below_le n most f (λ k below. each k (omega arith)), each n (omega arith))

pub largest_below_le_each : (n : ℕ) (f g : ℕ → ℕ) → ((k : ℕ) → k < n → f k ≤ g k) → largest_below n f ≤ largest_below n g
unfolding largest_below
largest_below_le_each zero f g each = omega arith
largest_below_le_each (suc n) f g each =
    omega (arith, largest_below_le_each n f g (λ k below. each k (omega arith)), each n (omega arith))

pub largest_below_none : (f : ℕ → ℕ) → largest_below 0 f ≡ 0
unfolding largest_below
largest_below_none f = refl

-- one more number
pub largest_below_more : (n : ℕ) (f : ℕ → ℕ) → largest_below (n + 1) f ≡ max (largest_below n f) (f n)
unfolding largest_below
largest_below_more n f = rw (← suc-eq-add-one n) refl

-- what comes from m on is 0
pub largest_below_past : (m n : ℕ) (f : ℕ → ℕ) → m ≤ n → ((k : ℕ) → m ≤ k → k < n → f k ≡ 0) → largest_below n f ≡ largest_below m f
unfolding largest_below
largest_below_past m zero f le past = let none : m ≡ 0 = omega arith in rw none refl
largest_below_past m (suc n) f le past = elim (cases_eq m (suc n)) [
  | inl same ↦ rw same refl
  | inr other ↦
      omega (arith, largest_below_past m n f (omega arith) (λ k from below. past k from (omega arith)), past n (omega arith) (omega arith))
]

-- the first m values, and n more
largest_below_append : (m n : ℕ) (f : ℕ → ℕ) → largest_below (m + n) f ≡ max (largest_below m f) (largest_below n (λ k. f (m + k)))
unfolding largest_below
largest_below_append m zero f = rw (add-zero m) (omega arith)
largest_below_append m (suc n) f = rw (add-suc m n) (omega (arith, largest_below_append m n f))

largest_below_max : (n : ℕ) (f g : ℕ → ℕ) → largest_below n (λ k. max (f k) (g k)) ≡ max (largest_below n f) (largest_below n g)
unfolding largest_below
largest_below_max zero f g = omega arith
largest_below_max (suc n) f g = omega (arith, largest_below_max n f g)

-- the values of some chunks, by lanes: each has one value of each chunk
pub largest_by_lanes : (chunks lanes : ℕ) (f : ℕ → ℕ) →
    largest_below (chunks * lanes) f ≡ largest_below lanes (λ lane. largest_below chunks (λ chunk. f (chunk * lanes + lane)))
unfolding largest_below
largest_by_lanes zero lanes f =
    let none : zero * lanes ≡ zero = omega arith in
    rw none (omega (arith, largest_below_le lanes 0 (λ _. 0) (λ k _. omega arith)))
largest_by_lanes (suc chunks) lanes f =
    let more : suc chunks * lanes ≡ chunks * lanes + lanes = omega arith in
    let last : ℕ → ℕ = λ lane. f (chunks * lanes + lane) in
    rw more (
    largest_below_append (chunks * lanes) lanes f ∙
    ap (λ n. max n (largest_below lanes last)) (largest_by_lanes chunks lanes f) ∙
    sym (largest_below_max lanes (λ lane. largest_below chunks (λ chunk. f (chunk * lanes + lane))) last))

-- what `max` of std answers at numbers
pub ord_max_is : (a b : ℕ) → ord_max nat_cmp a b ≡ max a b
ord_max_is a b = grind (arith, nat_tests)
