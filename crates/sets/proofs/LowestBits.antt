-- The lowest number of a set, and the set without it, as the bits of two words.
use Rattle.std.proofs.Common.{◌≡◌, ℕ, suc, Bool, ◌+◌, ◌-◌, ◌*◌, ◌/◌, ◌^◌, ◌%◌, ◌<◌, ◌&&◌, ◌==◌, not, min}
use Rattle.std.proofs.Common.{bit_and, true, false, refl, sym, ◌∙◌, ap, inl, inr, arith}
use Rattle.std.proofs.Math.Nat.{min-zero, zero-min}
use Rattle.std.proofs.lemmas.Bool.{cases_eq, cases_lt, eq-eqb, ne_eqb, and_right}
use Rattle.std.proofs.lemmas.Nat.{pow_pos, shr_split, mod_below, and_le_r}
use Rattle.std.proofs.lemmas.Nat.Bits.{bit_at_and, bit_at-suc, bit_at-zero, bit_at_lowest}
use Rattle.std.proofs.lemmas.Nat.Bits.{bit_at_cat_low, bit_at_cat_high, same_from_bits_below}
use Rattle.std.proofs.lemmas.Nat.Bits.{bit_at-trailing_zeros}
use Rattle.std.specs.Int.{bit_at, Width, trailing_zeros}
use mir.Val.{bits}
use Rattle.sets.specs.Sets.{has}
use Rattle.sets.specs.within.Sets.{IsWithoutLowest}

-- k is the place of the lowest bit of a number
record IsLowest (set k : ℕ) : Type 0 where
  is_set : bit_at set k ≡ 1
  none_below : (i : ℕ) → i < k → bit_at set i ≡ 0

no_low_bits : (set k : ℕ) → IsLowest set k → set % 2 ^ k ≡ 0
no_low_bits set k lowest =
    same_from_bits_below k (set % 2 ^ k) 0 (mod_below set (2 ^ k) (pow_pos k)) (pow_pos k)
    (λ i lt. sym (bit_at_cat_low (set / 2 ^ k) k (set % 2 ^ k) i lt) ∙ ap (λ n. bit_at n i) (shr_split set k) ∙ lowest.none_below i lt
    ∙ sym (bit_at-zero i))

odd : (set k : ℕ) → IsLowest set k → set / 2 ^ k % 2 ≡ 1
odd set k lowest = lowest.is_set

-- the number, and the one before it, by the bits from k on and those below
as_shifted : (set k : ℕ) → IsLowest set k → set ≡ set / 2 ^ k * 2 ^ k + 0
as_shifted set k lowest = omega (arith, shr_split set k, no_low_bits set k lowest)

before_shifted : (set k : ℕ) → IsLowest set k → set - 1 ≡ (set / 2 ^ k - 1) * 2 ^ k + (2 ^ k - 1)
before_shifted set k lowest = before (set / 2 ^ k) (2 ^ k) set (as_shifted set k lowest) (pow_pos k) (odd set k lowest)
  where
    one_more : (q p : ℕ) → (q + 1) * p ≡ q * p + p
    one_more q p = omega arith

    before : (q p n : ℕ) → n ≡ q * p + 0 → 0 < p → q % 2 ≡ 1 → n - 1 ≡ (q - 1) * p + (p - 1)
    before q p n is pos is_odd =
        let one_less : q - 1 + 1 ≡ q = omega arith in omega (arith, sym (ap (λ m. m * p) one_less) ∙ one_more (q - 1) p)

-- above its lowest bit, an odd number and the one before it have the same bits
odd_before : (q i : ℕ) → q % 2 ≡ 1 → bit_at (q - 1) (suc i) ≡ bit_at q (suc i)
odd_before q i is_odd =
    let halves : (q - 1) / 2 ≡ q / 2 = omega arith in
    bit_at-suc (q - 1) i ∙ ap (λ n. bit_at n i) halves ∙ sym (bit_at-suc q i)

min_same : (b : ℕ) → min b b ≡ b
min_same b = omega arith

bit_without_below : (set k i : ℕ) → IsLowest set k → i < k → bit_at (bit_and set (set - 1)) i ≡ 0
bit_without_below set k i lowest lt =
    rw (bit_at_and set (set - 1) i, lowest.none_below i lt, zero-min (bit_at (set - 1) i)) refl

bit_without_at : (set k : ℕ) → IsLowest set k → bit_at (bit_and set (set - 1)) k ≡ 0
bit_without_at set k lowest =
    let low : 2 ^ k - 1 < 2 ^ k = omega (arith, pow_pos k) in
    let nowhere : k - k ≡ 0 = omega arith in
    let even : bit_at (set / 2 ^ k - 1) (k - k) ≡ 0 =
    ap (λ i. bit_at (set / 2 ^ k - 1) i) nowhere ∙ bit_at_lowest (set / 2 ^ k - 1) ∙ omega (arith, odd set k lowest) in
    let gone : bit_at (set - 1) k ≡ 0 =
    ap (λ n. bit_at n k) (before_shifted set k lowest)
    ∙ bit_at_cat_high (set / 2 ^ k - 1) k (2 ^ k - 1) k low (omega arith) ∙ even in
    rw (bit_at_and set (set - 1) k, gone, min-zero (bit_at set k)) refl

bit_without_above : (set k j : ℕ) → IsLowest set k → bit_at (bit_and set (set - 1)) (k + suc j) ≡ bit_at set (k + suc j)
bit_without_above set k j lowest =
    let low : 2 ^ k - 1 < 2 ^ k = omega (arith, pow_pos k) in
    let back : k + suc j - k ≡ suc j = omega arith in
    let high : (q : ℕ) → bit_at q (k + suc j - k) ≡ bit_at q (suc j) = λ q. ap (λ i. bit_at q i) back in
    let before : bit_at (set - 1) (k + suc j) ≡ bit_at (set / 2 ^ k - 1) (suc j) =
    ap (λ n. bit_at n (k + suc j)) (before_shifted set k lowest)
    ∙ bit_at_cat_high (set / 2 ^ k - 1) k (2 ^ k - 1) (k + suc j) low (omega arith) ∙ high (set / 2 ^ k - 1) in
    let whole : bit_at set (k + suc j) ≡ bit_at (set / 2 ^ k) (suc j) =
    ap (λ n. bit_at n (k + suc j)) (as_shifted set k lowest)
    ∙ bit_at_cat_high (set / 2 ^ k) k 0 (k + suc j) (pow_pos k) (omega arith) ∙ high (set / 2 ^ k) in
    let same : bit_at (set - 1) (k + suc j) ≡ bit_at set (k + suc j) =
    before ∙ odd_before (set / 2 ^ k) j (odd set k lowest) ∙ sym whole in
    rw (bit_at_and set (set - 1) (k + suc j), same) (min_same (bit_at set (k + suc j)))

has_without : (set k i : ℕ) → IsLowest set k → has (bit_and set (set - 1)) i ≡ (has set i && not (i == k))
has_without set k i lowest = elim (cases_eq i k) [
  | inl same ↦ rw (same, bit_without_at set k lowest, eq-eqb k k refl) (sym (and_right (has set k) false refl))
  | inr other ↦ elim (cases_lt i k) [
    | inl below ↦ rw (bit_without_below set k i lowest below, lowest.none_below i below) refl
    | inr from ↦
        let above : i ≡ k + suc (i - k - 1) = omega arith in
        let kept : bit_at (bit_and set (set - 1)) i ≡ bit_at set i =
        ap (λ n. bit_at (bit_and set (set - 1)) n) above ∙ bit_without_above set k (i - k - 1) lowest
        ∙ ap (λ n. bit_at set n) (sym above) in
        rw (kept, ne_eqb i k other) (sym (kept_and (has set i)))
  ]
]
  where
    kept_and : (b : Bool) → (b && true) ≡ b
    kept_and true = refl
    kept_and false = refl

-- the bit that `n & (n - 1)` takes out of a word is the one that `trailing_zeros` tells
pub lowest_taken : (w : Width) (set : ℕ) → 0 < set → set < 2 ^ bits w
    → IsWithoutLowest set (trailing_zeros w set) (bit_and set (set - 1))
lowest_taken w set some fits =
    let zeros = bit_at-trailing_zeros w set some fits in
    let lowest : IsLowest set (trailing_zeros w set) = record { is_set = zeros.1; none_below = zeros.2 } in
    record {
      in_set = rw zeros.1 refl;
      is_lowest = λ k lt. rw (zeros.2 k lt) refl;
      others = λ k. has_without set (trailing_zeros w set) k lowest;
      fewer = omega (arith, and_le_r set (set - 1), some);
    }
