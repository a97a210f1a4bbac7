-- A set of numbers as the number of its bits.
use Rattle.std.proofs.Common.{◌≡◌, ℕ, ◌-◌, ◌*◌, ◌^◌, ◌%◌, ◌<◌, ◌≤◌, ◌||◌, ◌==◌, nat_lt, max, bit_or, Bool, true, false, refl}
use Rattle.std.proofs.Common.{sym, ◌∙◌, ap, inl, inr, arith}
use Rattle.std.proofs.Math.Nat.{pow-le-pow_right, max-zero}
use Rattle.std.proofs.lemmas.Bool.{cases_eq, cases_lt, eq-eqb, ne_eqb, lt-ltb, le-ltb, or_left, false≢true}
use Rattle.std.proofs.lemmas.Nat.{pow_pos, pow_below, or_lt, le_or_l, one_shl}
use Rattle.std.proofs.lemmas.Nat.Bits.{bit_at_or, bit_at-lt, bit_at-pow_same, bit_at-pow_other, bit_at_ones}
use Rattle.std.proofs.lemmas.Nat.Bits.{bit_at_ones_above, bit_at_above, bit_at-zero}
use Rattle.std.specs.Int.{bit_at}
use Rattle.sets.specs.Sets.{has, IsBelow, with_number, both, all_numbers}

-- a set has no number beyond its bound
pub has_beyond : (m set k : ℕ) → IsBelow m set → m ≤ k → has set k ≡ false
has_beyond m set k below beyond = rw (bit_at_above set m k below beyond) refl

pub IsBelow_more : (m n set : ℕ) → m ≤ n → IsBelow m set → IsBelow n set
IsBelow_more m n set le below = let grows : 2 ^ m ≤ 2 ^ n = pow-le-pow_right (omega arith) le in omega (arith, grows)

pub IsBelow_all_numbers : (m : ℕ) → IsBelow m (all_numbers m)
unfolding all_numbers
IsBelow_all_numbers m = omega (arith, pow_pos m)

pub has_all_numbers : (m k : ℕ) → has (all_numbers m) k ≡ nat_lt k m
unfolding all_numbers
has_all_numbers m k = elim (cases_lt k m) [
  | inl inside ↦ rw (bit_at_ones m k inside, lt-ltb k m inside) refl
  | inr beyond ↦ rw (bit_at_ones_above m k beyond, le-ltb k m beyond) refl
]

pub IsBelow_with_number : (m set k : ℕ) → IsBelow m set → k < m → IsBelow m (with_number set k)
unfolding with_number
IsBelow_with_number m set k below lt = or_lt m set (2 ^ k) below (pow_below k m lt)

one_bit : (b : ℕ) → b < 2 → (max b 1 == 1) ≡ true
one_bit b small = eq-eqb (max b 1) 1 (omega arith)

pub has_with_number : (set k t : ℕ) → has (with_number set k) t ≡ (t == k || has set t)
unfolding with_number
has_with_number set k t = elim (cases_eq t k) [
  | inl same ↦
      rw (same, bit_at_or set (2 ^ k) k, bit_at-pow_same k, eq-eqb k k refl) (one_bit (bit_at set k) (bit_at-lt set k))
  | inr other ↦ rw (bit_at_or set (2 ^ k) t, bit_at-pow_other k t other, max-zero (bit_at set t), ne_eqb t k other) refl
]

pub has_both : (i j k : ℕ) → has (both i j) k ≡ (k == i || k == j)
has_both i j k =
    rw (has_with_number (with_number 0 j) i k, has_with_number 0 j k, bit_at-zero k) (ap (λ b. k == i || b) (or_false (k == j)))
  where
    or_false : (x : Bool) → (x || false) ≡ x
    or_false true = refl
    or_false false = refl

-- the words of bits in which the code holds a set
pub all_numbers_shifted : (k w : ℕ) → k < w → 1 * 2 ^ k % 2 ^ w - 1 ≡ all_numbers k
unfolding all_numbers
all_numbers_shifted k w lt = rw (one_shl k w lt) refl

pub with_number_shifted : (set k w : ℕ) → k < w → bit_or set (1 * 2 ^ k % 2 ^ w) ≡ with_number set k
unfolding with_number
with_number_shifted set k w lt = rw (one_shl k w lt) refl

-- a set with a number added is no less
pub le-with_number : (set k : ℕ) → set ≤ with_number set k
unfolding with_number
le-with_number set k = le_or_l set (2 ^ k)

-- a set grows by a new number
pub with_number-grows : (set k : ℕ) → has set k ≡ false → set < with_number set k
with_number-grows set k out = omega (arith, le-with_number set k, other)
  where
    other : set ≡ with_number set k → ⊥
    other same =
        false≢true (sym out ∙ ap (λ s. has s k) same ∙ has_with_number set k k ∙ or_left (k == k) (has set k) (eq-eqb k k refl))
