-- What operations on the bits of words do to sets.
use Rattle.std.proofs.Common.{◌≡◌, ℕ, zero, suc, ◌+◌, ◌-◌, ◌*◌, ◌/◌, ◌%◌, ◌^◌, ◌<◌, ◌≤◌, ◌&&◌, ◌||◌, ◌==◌, ◌⊎◌, not}
use Rattle.std.proofs.Common.{nat_lt, min, max, bit_and, bit_or, bit_xor, Bool, true, false, if◌then◌else◌, refl, sym}
use Rattle.std.proofs.Common.{◌∙◌, ap, inl, inr, arith}
use Rattle.std.proofs.Math.Nat.{mod-eq_of_lt}
use Rattle.std.proofs.lemmas.Bool.{cases_eq, cases_lt, ne_eqb}
use Rattle.std.proofs.lemmas.Nat.{pow_pos, shr-shr, shr_split, shr_le, mod_below, shr_below, and_le_l, and_le_r, or_lt}
use Rattle.std.proofs.lemmas.Nat.{xor_lt, ones_cat, and_mask}
use Rattle.std.proofs.lemmas.Nat.Bits.{bit_at_and, bit_at_or, bit_at_xor, bit_at_not, bit_at-lt, bit_at-zero}
use Rattle.std.proofs.lemmas.Nat.Bits.{bit_at_cat_low, bit_at_cat_high}
use Rattle.std.specs.Bool.{beq}
use Rattle.std.specs.Int.{bit_at, Width, bit_not, trailing_zeros}
use Rattle.std.specs.Int.RustNames.{count_ones}
use mir.Val.{bits}
use Rattle.sets.specs.Sums.{sum_below, count_where, any_below}
use Rattle.sets.specs.Sets.{has, is_like_next, IsBelow, all_numbers}
use Rattle.sets.proofs.Bits.{has_beyond, IsBelow_more, has_all_numbers, IsBelow_all_numbers, all_numbers_shifted}
use Rattle.sets.proofs.LowestBits.{lowest_taken}
use Rattle.sets.proofs.Sums.{count_where_same, any_below_found, any_below_from_none}
use Rattle.sets.proofs.WalkedSums.{lowest_below, has_empty}

is_zero_or_one : (x : ℕ) → x < 2 → (x ≡ 0) ⊎ (x ≡ 1)
is_zero_or_one x small = elim (cases_eq x 0) [ inl none ↦ inl none | inr some ↦ inr (omega arith) ]

pub has_union : (a b k : ℕ) → has (bit_or a b) k ≡ (has a k || has b k)
has_union a b k = rw (bit_at_or a b k) (of_bits (bit_at a k) (bit_at b k) (bit_at-lt a k) (bit_at-lt b k))
  where
    of_bits : (x y : ℕ) → x < 2 → y < 2 → (max x y == 1) ≡ (x == 1 || y == 1)
    of_bits x y x_small y_small = elim (is_zero_or_one x x_small) [
      | inl e ↦ elim (is_zero_or_one y y_small) [ inl f ↦ rw (e, f) refl | inr f ↦ rw (e, f) refl ]
      | inr e ↦ elim (is_zero_or_one y y_small) [ inl f ↦ rw (e, f) refl | inr f ↦ rw (e, f) refl ]
    ]

pub has_intersection : (a b k : ℕ) → has (bit_and a b) k ≡ (has a k && has b k)
has_intersection a b k = rw (bit_at_and a b k) (of_bits (bit_at a k) (bit_at b k) (bit_at-lt a k) (bit_at-lt b k))
  where
    of_bits : (x y : ℕ) → x < 2 → y < 2 → (min x y == 1) ≡ (x == 1 && y == 1)
    of_bits x y x_small y_small = elim (is_zero_or_one x x_small) [
      | inl e ↦ elim (is_zero_or_one y y_small) [ inl f ↦ rw (e, f) refl | inr f ↦ rw (e, f) refl ]
      | inr e ↦ elim (is_zero_or_one y y_small) [ inl f ↦ rw (e, f) refl | inr f ↦ rw (e, f) refl ]
    ]

pub has_toggled : (a b k : ℕ) → has (bit_xor a b) k ≡ (if has b k then not (has a k) else has a k)
has_toggled a b k = rw (bit_at_xor a b k) (of_bits (bit_at a k) (bit_at b k) (bit_at-lt a k) (bit_at-lt b k))
  where
    of_bits : (x y : ℕ) → x < 2 → y < 2 → ((x + y) % 2 == 1) ≡ (if y == 1 then not (x == 1) else x == 1)
    of_bits x y x_small y_small = elim (is_zero_or_one x x_small) [
      | inl e ↦ elim (is_zero_or_one y y_small) [ inl f ↦ rw (e, f) refl | inr f ↦ rw (e, f) refl ]
      | inr e ↦ elim (is_zero_or_one y y_small) [ inl f ↦ rw (e, f) refl | inr f ↦ rw (e, f) refl ]
    ]

-- a word's bits that another lacks, where the first has none beyond the word
pub has_difference : (w : Width) (a b k : ℕ) → IsBelow (bits w) a → IsBelow (bits w) b
    → has (bit_and a (bit_not w b)) k ≡ (has a k && not (has b k))
has_difference w a b k a_below b_below = has_intersection a (bit_not w b) k ∙ elim (cases_lt k (bits w)) [
  | inl inside ↦ ap (λ c. has a k && c) (rw (bit_at_not w b k b_below inside) (of_bit (bit_at b k) (bit_at-lt b k)))
  | inr beyond ↦ rw (has_beyond (bits w) a k a_below beyond) refl
]
  where
    of_bit : (y : ℕ) → y < 2 → (1 - y == 1) ≡ not (y == 1)
    of_bit y small = elim (is_zero_or_one y small) [ inl f ↦ rw f refl | inr f ↦ rw f refl ]

pub IsBelow_union : (m a b : ℕ) → IsBelow m a → IsBelow m b → IsBelow m (bit_or a b)
IsBelow_union m a b a_below b_below = or_lt m a b a_below b_below

pub IsBelow_toggled : (m a b : ℕ) → IsBelow m a → IsBelow m b → IsBelow m (bit_xor a b)
IsBelow_toggled m a b a_below b_below = xor_lt m a b a_below b_below

pub IsBelow_common : (m a b : ℕ) → IsBelow m a → IsBelow m (bit_and a b)
IsBelow_common m a b below = omega (arith, and_le_l a b)

-- the numbers k further down
pub has_shifted : (set k s : ℕ) → has (set / 2 ^ k) s ≡ has set (s + k)
has_shifted set k s = ap (λ n. n % 2 == 1) (shr-shr set k s ∙ ap (λ e. set / 2 ^ e) (omega arith))

pub IsBelow_shifted : (m set k : ℕ) → IsBelow m set → IsBelow m (set / 2 ^ k)
IsBelow_shifted m set k below = omega (arith, shr_le set k)

-- the numbers that come next
has_next : (set s : ℕ) → has (set * 2 ^ 1) s ≡ (not (s == 0) && has set (s - 1))
has_next set s =
    let as_sum : set * 2 ^ 1 ≡ set * 2 ^ 1 + 0 = omega arith in
    elim (cases_eq s 0) [
      | inl first ↦
          rw (first) (ap (λ n. n == 1) (ap (λ n. bit_at n 0) as_sum ∙ bit_at_cat_low set 1 0 0 (omega arith) ∙ bit_at-zero 0))
      | inr later ↦
          rw (ne_eqb s 0 later) (ap (λ n. n == 1) (ap (λ n. bit_at n s) as_sum ∙ bit_at_cat_high set 1 0 s (omega arith) (omega arith)))
    ]

-- how many bits a word has
pub ones_count : (m set : ℕ) → IsBelow m set → count_ones set ≡ count_where m (has set)
unfolding sum_below count_ones
ones_count zero set below = let none : set ≡ 0 = omega arith in rw none refl
ones_count (suc m) set below =
    let one_more : 1 + m ≡ suc m = omega arith in
    let widths : set < 2 ^ (1 + m) = rw one_more below in
    let low : set % 2 ^ m < 2 ^ m = mod_below set (2 ^ m) (pow_pos m) in
    let parts : count_ones set ≡ count_ones (set / 2 ^ m) + count_ones (set % 2 ^ m) =
    ap (λ n. count_ones n) (sym (shr_split set m)) ∙ ones_cat m (set / 2 ^ m) (set % 2 ^ m) low in
    let low_bits : count_where m (has (set % 2 ^ m)) ≡ count_where m (has set) =
    count_where_same m (has (set % 2 ^ m)) (has set)
    (λ k lt. ap (λ n. n == 1) (sym (bit_at_cat_low (set / 2 ^ m) m (set % 2 ^ m) k lt) ∙ ap (λ n. bit_at n k) (shr_split set m))) in
    omega (arith, parts, low_bits, ones_count m (set % 2 ^ m) low, top (set / 2 ^ m) (shr_below set 1 m widths))
  where
    top : (bit : ℕ) → bit < 2 → count_ones bit ≡ (if bit % 2 == 1 then 1 else 0)
    top bit small = elim (is_zero_or_one bit small) [ inl none ↦ rw none refl | inr one ↦ rw one refl ]

-- the bits of a word are those of its two halves
pub ones_of_halves : (set : ℕ) → count_ones (bit_and set (2 ^ 64 - 1)) + count_ones (set / 2 ^ 64) ≡ count_ones set
ones_of_halves set =
    omega (
      arith,
      ap (λ n. count_ones n) (and_mask set 64),
      ap (λ n. count_ones n) (sym (shr_split set 64)) ∙ ones_cat 64 (set / 2 ^ 64) (set % 2 ^ 64) (mod_below set (2 ^ 64) (pow_pos 64)),
    )

-- whether some bit is in both words
pub meets_of_bits : (w : Width) (m a b : ℕ) → m ≤ bits w → IsBelow m a
    → not (bit_and a b == 0) ≡ any_below m (λ k. has a k && has b k)
meets_of_bits w m a b fits below = elim (cases_eq (bit_and a b) 0) [
  | inl none ↦
      rw none (sym (any_below_from_none m (λ k. has a k && has b k)
      (λ k k_below. sym (has_intersection a b k) ∙ ap (λ s. has s k) none ∙ has_empty k)))
  | inr some ↦
      let common_below : IsBelow m (bit_and a b) = IsBelow_common m a b below in
      let taken =
      lowest_taken w (bit_and a b) (omega arith) (IsBelow_more m (bits w) (bit_and a b) fits common_below) in
      rw (ne_eqb (bit_and a b) 0 some)
      (sym (any_below_found m (λ k. has a k && has b k) (trailing_zeros w (bit_and a b))
      (lowest_below m (bit_and a b) _ _ common_below taken)
      (sym (has_intersection a b (trailing_zeros w (bit_and a b))) ∙ taken.in_set)))
]

-- the numbers that are as the next is, where that is below a bound
pub has_like_next : (w : Width) (set m k : ℕ) → IsBelow (bits w) set → m ≤ bits w
    → has (bit_and (all_numbers m / 2 ^ 1) (bit_not w (bit_xor set (set / 2 ^ 1)))) k ≡ (nat_lt (k + 1) m && is_like_next set k)
has_like_next w set m k below fits =
    let mask_below : IsBelow (bits w) (all_numbers m / 2 ^ 1) =
    IsBelow_shifted (bits w) (all_numbers m) 1 (IsBelow_more m (bits w) (all_numbers m) fits (IsBelow_all_numbers m)) in
    let flips_below : IsBelow (bits w) (bit_xor set (set / 2 ^ 1)) =
    IsBelow_toggled (bits w) set (set / 2 ^ 1) below (IsBelow_shifted (bits w) set 1 below) in
    rw (
      has_difference w (all_numbers m / 2 ^ 1) (bit_xor set (set / 2 ^ 1)) k mask_below flips_below,
      has_shifted (all_numbers m) 1 k,
      has_all_numbers m (k + 1),
      has_toggled set (set / 2 ^ 1) k,
      has_shifted set 1 k,
    ) (ap (λ b. nat_lt (k + 1) m && b) (no_flip (has set k) (has set (k + 1))))
  where
    no_flip : (a b : Bool) → not (if b then not a else a) ≡ beq a b
    no_flip true true = refl
    no_flip true false = refl
    no_flip false true = refl
    no_flip false false = refl

pub IsBelow_like_next : (a m : ℕ) → IsBelow (m - 1) (bit_and (all_numbers m / 2 ^ 1) a)
IsBelow_like_next a m =
    IsBelow_common (m - 1) (all_numbers m / 2 ^ 1) a (shr_below (all_numbers m) (m - 1) 1 widths)
  where
    widths : IsBelow (m - 1 + 1) (all_numbers m)
    widths = IsBelow_more m (m - 1 + 1) (all_numbers m) (omega arith) (IsBelow_all_numbers m)

-- the numbers of a set and those that come next, below a bound
pub has_with_next : (w set m k : ℕ) → set * 2 ^ 1 < 2 ^ w → m < w
    → has (bit_and (bit_or set (set * 2 ^ 1 % 2 ^ w)) (1 * 2 ^ m % 2 ^ w - 1)) k
    ≡ (nat_lt k m && (has set k || (not (k == 0) && has set (k - 1))))
has_with_next w set m k fits lt =
    let mask : 1 * 2 ^ m % 2 ^ w - 1 ≡ all_numbers m = all_numbers_shifted m w lt in
    let next : set * 2 ^ 1 % 2 ^ w ≡ set * 2 ^ 1 = mod-eq_of_lt fits in
    rw (
      mask,
      next,
      has_intersection (bit_or set (set * 2 ^ 1)) (all_numbers m) k,
      has_union set (set * 2 ^ 1) k,
      has_next set k,
      has_all_numbers m k,
    )
    (and_swapped (has set k || (not (k == 0) && has set (k - 1))) (nat_lt k m))
  where
    and_swapped : (a b : Bool) → (a && b) ≡ (b && a)
    and_swapped true true = refl
    and_swapped true false = refl
    and_swapped false true = refl
    and_swapped false false = refl

pub IsBelow_with_next : (w a m : ℕ) → m < w → IsBelow m (bit_and a (1 * 2 ^ m % 2 ^ w - 1))
IsBelow_with_next w a m lt =
    rw (all_numbers_shifted m w lt) (omega (arith, and_le_r a (all_numbers m), IsBelow_all_numbers m))
