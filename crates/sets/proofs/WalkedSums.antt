-- Sums that a loop over the numbers of a set makes.
use Rattle.std.proofs.Common.{◌≡◌, ℕ, ◌+◌, ◌*◌, ◌<◌, ◌≤◌, ◌≢◌, ◌&&◌, ◌==◌, not, Bool, false, if◌then◌else◌, refl}
use Rattle.std.proofs.Math.Bool.{and-true}
use Rattle.std.proofs.Common.{sym, ◌∙◌, ap, inl, inr, arith}
use Rattle.std.proofs.Math.Nat.{mul-le-mul_left, zero-add}
use Rattle.std.proofs.lemmas.Bool.{cases_lt, eq-eqb, ne_eqb, and_right, cond-true, cond-false, true≢false}
use Rattle.std.proofs.lemmas.Nat.Bits.{bit_at-zero}
use Rattle.sets.specs.Sums.{sum_where, count_where}
use Rattle.sets.specs.Sets.{has, IsBelow}
use Rattle.sets.specs.within.Sets.{IsWithoutLowest}
use Rattle.sets.proofs.Bits.{has_beyond}
use Rattle.sets.proofs.Sums.{sum_below_one, sum_where_none, sum_where_same, count_where_le}

-- the lowest number of a set below m is below m
pub lowest_below : (m set lowest rest : ℕ) → IsBelow m set → IsWithoutLowest set lowest rest → lowest < m
lowest_below m set lowest rest below taken = elim (cases_lt lowest m) [
  | inl lt ↦ lt
  | inr beyond ↦ absurd (true≢false (sym taken.in_set ∙ has_beyond m set lowest below beyond))
]

pub has_empty : (k : ℕ) → has 0 k ≡ false
has_empty k = rw (bit_at-zero k) refl

-- a loop over a set has summed up the terms, each at most `most`, of those numbers that aren't left
pub record IsSumWithout (n set left total most : ℕ) (f : ℕ → ℕ) : Type 0 where
  pub below : IsBelow n left
  pub sum : total + sum_where n (has left) f ≡ sum_where n (has set) f
  pub within : total + most * count_where n (has left) ≤ most * n

pub sum_without_none : (n set left most : ℕ) (f : ℕ → ℕ) → IsBelow n left → left ≡ set
    → IsSumWithout n set left 0 most f
sum_without_none n set left most f below whole = record {
  below = below;
  sum = ap (λ s. 0 + sum_where n (has s) f) whole ∙ zero-add (sum_where n (has set) f);
  within = omega (arith, mul-le-mul_left most (count_where_le n (has left)));
}

-- the others of a set don't have its lowest number
pub lowest_gone : (set lowest rest : ℕ) → IsWithoutLowest set lowest rest → has rest lowest ≡ false
lowest_gone set lowest rest taken =
    taken.others lowest ∙ and_right (has set lowest) (not (lowest == lowest)) (ap not (eq-eqb lowest lowest refl))

-- and have each other number that the set has
pub others_kept : (set lowest rest k : ℕ) → IsWithoutLowest set lowest rest → k ≢ lowest → has rest k ≡ has set k
others_kept set lowest rest k taken other =
    taken.others k ∙ ap (λ b. has set k && not b) (ne_eqb k lowest other) ∙ and-true (has set k)

-- the sum over a set is its lowest number's term more than that over the others
pub sum_where_without : (n set lowest rest : ℕ) (f : ℕ → ℕ) → lowest < n → IsWithoutLowest set lowest rest
    → sum_where n (has set) f ≡ sum_where n (has rest) f + f lowest
sum_where_without n set lowest rest f below taken =
    sum_below_one n lowest (f lowest) (λ k. if has rest k then f k else 0) (λ k. if has set k then f k else 0) below
    (cond-true (has set lowest) (f lowest) 0 taken.in_set ∙ sym (zero-add (f lowest))
    ∙ ap (λ m. m + f lowest) (sym (cond-false (has rest lowest) (f lowest) 0 (lowest_gone set lowest rest taken))))
    (λ k k_below other. ap (λ b. if b then f k else 0) (sym (others_kept set lowest rest k taken other)))

pub sum_without_more : (n set left lowest rest total term most : ℕ) (f : ℕ → ℕ) → IsSumWithout n set left total most f
    → IsWithoutLowest left lowest rest → term ≡ f lowest → term ≤ most → IsSumWithout n set rest (total + term) most f
sum_without_more n set left lowest rest total term most f so_far taken is small =
    let in_range : lowest < n = lowest_below n left lowest rest so_far.below taken in
    let one_term : sum_where n (has left) f ≡ sum_where n (has rest) f + f lowest =
    sum_where_without n left lowest rest f in_range taken in
    let one_fewer : count_where n (has left) ≡ count_where n (has rest) + 1 =
    sum_where_without n left lowest rest (λ _. 1) in_range taken in
    let by_most : most * count_where n (has left) ≡ most * count_where n (has rest) + most =
    ap (λ m. most * m) one_fewer ∙ one_more most (count_where n (has rest)) in
    record {
      below = omega (arith, so_far.below, taken.fewer);
      sum = omega (arith, so_far.sum, one_term, is);
      within = omega (arith, so_far.within, by_most, small);
    }
  where
    one_more : (a b : ℕ) → a * (b + 1) ≡ a * b + a
    one_more a b = omega arith

-- the whole sum, where none is left and the set has those that pass a test
pub sum_without_all : (n set left total most : ℕ) (test : ℕ → Bool) (f : ℕ → ℕ) → IsSumWithout n set left total most f
    → left ≡ 0
    → ((k : ℕ) → k < n → has set k ≡ test k) → total ≡ sum_where n test f
sum_without_all n set left total most test f so_far none_left members =
    omega (
      arith,
      so_far.sum,
      sum_where_none n (has left) f (λ k below. ap (λ s. has s k) none_left ∙ has_empty k),
      sum_where_same n (has set) test f f members (λ k below passes. refl),
    )
