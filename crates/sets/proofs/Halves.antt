-- A set in two words of m bits: the numbers below m, and those from m on, each m further down.
use Rattle.std.proofs.Common.{◌≡◌, ℕ, ◌+◌, ◌-◌, ◌*◌, ◌/◌, ◌%◌, ◌^◌, ◌<◌, ◌≤◌, ◌&&◌, ◌==◌, not, bit_and, false}
use Rattle.std.proofs.Math.Bool.{and-true}
use Rattle.std.proofs.Common.{sym, ◌∙◌, ap, inl, inr, arith}
use Rattle.std.proofs.Math.Nat.{mul-lt-mul_of_pos_right}
use Rattle.std.proofs.lemmas.Bool.{cases_eq, cases_lt, eq-eqb, ne_eqb}
use Rattle.std.proofs.lemmas.Nat.{pow_pos, mod_below, shr_split, and_mask}
use Rattle.std.proofs.lemmas.Nat.Bits.{bit_at-zero, bit_at_cat_low, bit_at_cat_high}
use Rattle.std.specs.Int.{Width, trailing_zeros}
use mir.Val.{bits}
use Rattle.sets.specs.Sets.{has}
use Rattle.sets.specs.within.Sets.{IsWithoutLowest}
use Rattle.sets.proofs.LowestBits.{lowest_taken}
use Rattle.sets.proofs.WalkedSums.{lowest_below}

-- the lowest number of the low half, with those of the high half above it

has_low : (high low m i : ℕ) → i < m → has (high * 2 ^ m + low) i ≡ has low i
has_low high low m i lt = ap (λ n. n == 1) (bit_at_cat_low high m low i lt)

has_high : (high low m i : ℕ) → low < 2 ^ m → m ≤ i → has (high * 2 ^ m + low) i ≡ has high (i - m)
has_high high low m i below from = ap (λ n. n == 1) (bit_at_cat_high high m low i below from)

-- a number of a set, in the half that has it

pub has_in_low_half : (set k : ℕ) → k < 64 → (bit_and (bit_and set (2 ^ 64 - 1) / 2 ^ k) 1 == 1) ≡ has set k
has_in_low_half set k lt =
    ap (λ n. n == 1) (and_mask (bit_and set (2 ^ 64 - 1) / 2 ^ k) 1) ∙ ap (λ n. has n k) (and_mask set 64) ∙ sym (has_low (set / 2 ^ 64) (set % 2 ^ 64) 64 k lt) ∙ ap (λ n. has n k) (shr_split set 64)

pub has_in_high_half : (set k : ℕ) → 64 ≤ k → (bit_and (set / 2 ^ 64 / 2 ^ (k - 64)) 1 == 1) ≡ has set k
has_in_high_half set k from =
    ap (λ n. n == 1) (and_mask (set / 2 ^ 64 / 2 ^ (k - 64)) 1) ∙
    sym (has_high (set / 2 ^ 64) (set % 2 ^ 64) 64 k (mod_below set (2 ^ 64) (pow_pos 64)) from) ∙ ap (λ n. has n k) (shr_split set 64)

lowest_of_low_half : (high low m k rest : ℕ) → low < 2 ^ m → IsWithoutLowest low k rest
    → IsWithoutLowest (high * 2 ^ m + low) k (high * 2 ^ m + rest)
lowest_of_low_half high low m k rest below taken =
    let lt : k < m = lowest_below m low k rest below taken in
    let fewer : rest < low = taken.fewer in
    let rest_below : rest < 2 ^ m = omega arith in
    record {
      in_set = has_low high low m k lt ∙ taken.in_set;
      is_lowest = λ i i_lt. has_low high low m i (omega arith) ∙ taken.is_lowest i i_lt;
      others = λ i. elim (cases_lt i m) [
        | inl inside ↦
            has_low high rest m i inside ∙ taken.others i
            ∙ ap (λ b. b && not (i == k)) (sym (has_low high low m i inside))
        | inr beyond ↦
            has_high high rest m i rest_below beyond ∙ sym (has_high high low m i below beyond)
            ∙ sym (ap (λ b. has (high * 2 ^ m + low) i && not b) (ne_eqb i k (omega arith)) ∙ and-true (has (high * 2 ^ m + low) i))
      ];
      fewer = omega arith;
    }

-- the same set further up

has_moved_below : (set m i : ℕ) → i < m → has (set * 2 ^ m) i ≡ false
has_moved_below set m i lt =
    let as_sum : set * 2 ^ m ≡ set * 2 ^ m + 0 = omega arith in
    ap (λ n. has n i) as_sum ∙ has_low set 0 m i lt ∙ ap (λ n. n == 1) (bit_at-zero i)

has_moved : (set m i : ℕ) → m ≤ i → has (set * 2 ^ m) i ≡ has set (i - m)
has_moved set m i from =
    let as_sum : set * 2 ^ m ≡ set * 2 ^ m + 0 = omega arith in
    ap (λ n. has n i) as_sum ∙ has_high set 0 m i (pow_pos m) from

lowest_moved : (set m k rest : ℕ) → IsWithoutLowest set k rest → IsWithoutLowest (set * 2 ^ m) (m + k) (rest * 2 ^ m)
lowest_moved set m k rest taken = record {
  in_set = has_moved set m (m + k) (omega arith) ∙ ap (has set) (omega arith) ∙ taken.in_set;
  is_lowest = λ i i_lt. elim (cases_lt i m) [
    | inl inside ↦ has_moved_below set m i inside
    | inr beyond ↦ has_moved set m i beyond ∙ taken.is_lowest (i - m) (omega arith)
  ];
  others = λ i. elim (cases_lt i m) [
    | inl inside ↦
        has_moved_below rest m i inside ∙ sym (ap (λ b. b && not (i == m + k)) (has_moved_below set m i inside))
    | inr beyond ↦
        has_moved rest m i beyond ∙ taken.others (i - m) ∙ ap (λ b. has set (i - m) && not b) (same_place i beyond)
        ∙ sym (ap (λ b. b && not (i == m + k)) (has_moved set m i beyond))
  ];
  fewer = mul-lt-mul_of_pos_right taken.fewer (pow_pos m);
}
  where
    same_place : (i : ℕ) → m ≤ i → (i - m == k) ≡ (i == m + k)
    same_place i beyond = elim (cases_eq i (m + k)) [
      | inl same ↦ eq-eqb (i - m) k (omega arith) ∙ sym (eq-eqb i (m + k) same)
      | inr other ↦ ne_eqb (i - m) k (λ same. other (omega arith)) ∙ sym (ne_eqb i (m + k) other)
    ]

-- what a step of the walk does to the set of those left, which is (high * 2 ^ w + low) * 2 ^ base for words of w bits

pub earliest_taken : (w : Width) (low high base : ℕ) → 0 < low → low < 2 ^ bits w
    → IsWithoutLowest ((high * 2 ^ bits w + low) * 2 ^ base) (base + trailing_zeros w low)
    ((high * 2 ^ bits w + bit_and low (low - 1)) * 2 ^ base)
earliest_taken w low high base some fits =
    let k = trailing_zeros w low in
    let rest = bit_and low (low - 1) in
    lowest_moved (high * 2 ^ bits w + low) base k (high * 2 ^ bits w + rest)
    (lowest_of_low_half high low (bits w) k rest fits (lowest_taken w low some fits))

-- the high half alone, once the low half has none
pub upper_half : (m low high base : ℕ) → low ≡ 0 → base ≡ 0 → (high * 2 ^ m + low) * 2 ^ base ≡ (0 * 2 ^ m + high) * 2 ^ m
upper_half m low high base none first = rw (none, first) (omega arith)
