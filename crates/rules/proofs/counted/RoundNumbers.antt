-- Numbers of rounds by their bits.
use Rattle.std.proofs.Common.{◌≡◌, ℕ, zero, suc, ◌+◌, ◌*◌, ◌/◌, ◌%◌, ◌<◌, ◌≤◌, ◌==◌, ◌&&◌, Bool, true, false, if◌then◌else◌, refl, ◌∙◌}
use Rattle.std.proofs.Common.{ap, arith}
use Rattle.league.specs.Sets.{has}
use Rattle.league.specs.Sums.{sum_below}
use Rattle.rules.specs.Deviations.{over}
use Rattle.rules.specs.within.Walked.{one_in, number_at}
use Rattle.rules.specs.declared.round_numbers.RoundNumbers.{RoundNumbers}

-- 1 where both hold
one_where : (a b : Bool) (set r : ℕ) → has set r ≡ (a && b) → one_in set r ≡ (if b then (if a then 1 else 0) else 0)
one_where true true set r is = ap {B = ℕ} (λ c. if c then 1 else 0) is
one_where true false set r is = ap {B = ℕ} (λ c. if c then 1 else 0) is
one_where false true set r is = ap {B = ℕ} (λ c. if c then 1 else 0) is
one_where false false set r is = ap {B = ℕ} (λ c. if c then 1 else 0) is

pub one_le : (set r : ℕ) → one_in set r ≤ 1
one_le set r = at (has set r)
  where
    at : (b : Bool) → (if b then 1 else 0) ≤ 1
    at true = omega arith
    at false = omega arith

-- a number is its lowest bit and twice its half
by_half : (n half : ℕ) → n / 2 ≡ half → n ≡ (if n % 2 == 1 then 1 else 0) + 2 * half
by_half n half is = grind arith

-- a number by its bits
of_bits : (n : ℕ) → n < 128 →
    one_in n 0 + 2 * one_in n 1 + 4 * one_in n 2 + 8 * one_in n 3 + 16 * one_in n 4 + 32 * one_in n 5 + 64 * one_in n 6 ≡ n
of_bits n below =
    from_halves (n / 2) (n / 4) (n / 8) (n / 16) (n / 32) (n / 64) (one_in n 0) (one_in n 1) (one_in n 2) (one_in n 3) (one_in n 4)
    (one_in n 5) (one_in n 6) (whole ∙ by_half (n / 1) (n / 2) (omega arith)) (by_half (n / 2) (n / 4) (omega arith))
    (by_half (n / 4) (n / 8) (omega arith)) (by_half (n / 8) (n / 16) (omega arith)) (by_half (n / 16) (n / 32) (omega arith))
    (by_half (n / 32) (n / 64) (omega arith)) (by_half (n / 64) 0 (omega arith))
  where
    whole : n ≡ n / 1
    whole = omega arith

    from_halves : (h1 h2 h3 h4 h5 h6 b0 b1 b2 b3 b4 b5 b6 : ℕ) → n ≡ b0 + 2 * h1 → h1 ≡ b1 + 2 * h2 → h2 ≡ b2 + 2 * h3 →
        h3 ≡ b3 + 2 * h4 → h4 ≡ b4 + 2 * h5 → h5 ≡ b5 + 2 * h6 → h6 ≡ b6 + 2 * 0 →
        b0 + 2 * b1 + 4 * b2 + 8 * b3 + 16 * b4 + 32 * b5 + 64 * b6 ≡ n
    from_halves h1 h2 h3 h4 h5 h6 b0 b1 b2 b3 b4 b5 b6 e0 e1 e2 e3 e4 e5 e6 = omega arith

-- the same number in each of the rounds
pub number_in_each : (n rounds r : ℕ) (numbers : RoundNumbers) → n < 128 →
    has numbers.ones r ≡ (has n 0 && has rounds r) → has numbers.twos r ≡ (has n 1 && has rounds r) →
    has numbers.fours r ≡ (has n 2 && has rounds r) → has numbers.eights r ≡ (has n 3 && has rounds r) →
    has numbers.sixteens r ≡ (has n 4 && has rounds r) → has numbers.thirty_twos r ≡ (has n 5 && has rounds r) →
    has numbers.sixty_fours r ≡ (has n 6 && has rounds r) → number_at numbers r ≡ (if has rounds r then n else 0)
unfolding number_at
number_in_each n rounds r numbers below is0 is1 is2 is3 is4 is5 is6 =
    at (has rounds r) (one_where (has n 0) (has rounds r) numbers.ones r is0) (one_where (has n 1) (has rounds r) numbers.twos r is1)
    (one_where (has n 2) (has rounds r) numbers.fours r is2) (one_where (has n 3) (has rounds r) numbers.eights r is3)
    (one_where (has n 4) (has rounds r) numbers.sixteens r is4) (one_where (has n 5) (has rounds r) numbers.thirty_twos r is5)
    (one_where (has n 6) (has rounds r) numbers.sixty_fours r is6)
  where
    at : (b : Bool) → one_in numbers.ones r ≡ (if b then one_in n 0 else 0) → one_in numbers.twos r ≡ (if b then one_in n 1 else 0) →
        one_in numbers.fours r ≡ (if b then one_in n 2 else 0) → one_in numbers.eights r ≡ (if b then one_in n 3 else 0) →
        one_in numbers.sixteens r ≡ (if b then one_in n 4 else 0) → one_in numbers.thirty_twos r ≡ (if b then one_in n 5 else 0) →
        one_in numbers.sixty_fours r ≡ (if b then one_in n 6 else 0) → number_at numbers r ≡ (if b then n else 0)
    at true e0 e1 e2 e3 e4 e5 e6 = omega (arith, of_bits n below)
    at false e0 e1 e2 e3 e4 e5 e6 = omega arith

-- 1 added, where each bit carries to the next
pub one_added : (old new : RoundNumbers) (rounds r c1 c2 c3 c4 c5 c6 c7 : ℕ) → number_at old r < 127 →
    one_in new.ones r + 2 * one_in c1 r ≡ one_in old.ones r + one_in rounds r →
    one_in new.twos r + 2 * one_in c2 r ≡ one_in old.twos r + one_in c1 r →
    one_in new.fours r + 2 * one_in c3 r ≡ one_in old.fours r + one_in c2 r →
    one_in new.eights r + 2 * one_in c4 r ≡ one_in old.eights r + one_in c3 r →
    one_in new.sixteens r + 2 * one_in c5 r ≡ one_in old.sixteens r + one_in c4 r →
    one_in new.thirty_twos r + 2 * one_in c6 r ≡ one_in old.thirty_twos r + one_in c5 r →
    one_in new.sixty_fours r + 2 * one_in c7 r ≡ one_in old.sixty_fours r + one_in c6 r →
    number_at new r ≡ number_at old r + one_in rounds r
unfolding number_at
one_added old new rounds r c1 c2 c3 c4 c5 c6 c7 small e0 e1 e2 e3 e4 e5 e6 = omega (arith, one_le rounds r)

-- a sum by the bits of its terms
pub sum_by_bits : (n : ℕ) (f ones twos fours eights sixteens thirty_twos : ℕ → ℕ) →
    ((k : ℕ) → k < n → f k ≡ ones k + 2 * twos k + 4 * fours k + 8 * eights k + 16 * sixteens k + 32 * thirty_twos k) →
    sum_below n f ≡ sum_below n ones + 2 * sum_below n twos + 4 * sum_below n fours + 8 * sum_below n eights +
    16 * sum_below n sixteens + 32 * sum_below n thirty_twos
unfolding sum_below
sum_by_bits zero f ones twos fours eights sixteens thirty_twos is = refl
sum_by_bits (suc n) f ones twos fours eights sixteens thirty_twos is =
    omega (arith, sum_by_bits n f ones twos fours eights sixteens thirty_twos (λ k below. is k (omega arith)), is n (omega arith))

-- by how much a number is over 64, by its bits
pub over_by_bits : (numbers : RoundNumbers) (r ones twos fours eights sixteens thirty_twos : ℕ) →
    has ones r ≡ (has numbers.ones r && has numbers.sixty_fours r) → has twos r ≡ (has numbers.twos r && has numbers.sixty_fours r) →
    has fours r ≡ (has numbers.fours r && has numbers.sixty_fours r) → has eights r ≡ (has numbers.eights r && has numbers.sixty_fours r) →
    has sixteens r ≡ (has numbers.sixteens r && has numbers.sixty_fours r) →
    has thirty_twos r ≡ (has numbers.thirty_twos r && has numbers.sixty_fours r) →
    over (number_at numbers r) 64 ≡
    one_in ones r + 2 * one_in twos r + 4 * one_in fours r + 8 * one_in eights r + 16 * one_in sixteens r + 32 * one_in thirty_twos r
unfolding number_at
over_by_bits numbers r ones twos fours eights sixteens thirty_twos is0 is1 is2 is3 is4 is5 =
    at (has numbers.sixty_fours r) refl (one_where (has numbers.ones r) (has numbers.sixty_fours r) ones r is0)
    (one_where (has numbers.twos r) (has numbers.sixty_fours r) twos r is1)
    (one_where (has numbers.fours r) (has numbers.sixty_fours r) fours r is2)
    (one_where (has numbers.eights r) (has numbers.sixty_fours r) eights r is3)
    (one_where (has numbers.sixteens r) (has numbers.sixty_fours r) sixteens r is4)
    (one_where (has numbers.thirty_twos r) (has numbers.sixty_fours r) thirty_twos r is5)
  where
    at : (b : Bool) → has numbers.sixty_fours r ≡ b → one_in ones r ≡ (if b then one_in numbers.ones r else 0) →
        one_in twos r ≡ (if b then one_in numbers.twos r else 0) → one_in fours r ≡ (if b then one_in numbers.fours r else 0) →
        one_in eights r ≡ (if b then one_in numbers.eights r else 0) → one_in sixteens r ≡ (if b then one_in numbers.sixteens r else 0) →
        one_in thirty_twos r ≡ (if b then one_in numbers.thirty_twos r else 0) →
        over (number_at numbers r) 64 ≡
        one_in ones r + 2 * one_in twos r + 4 * one_in fours r + 8 * one_in eights r + 16 * one_in sixteens r + 32 * one_in thirty_twos r
    at true top e0 e1 e2 e3 e4 e5 = omega (arith, ap {B = ℕ} (λ c. if c then 1 else 0) top)
    at false top e0 e1 e2 e3 e4 e5 =
        omega (
          arith,
          ap {B = ℕ} (λ c. if c then 1 else 0) top,
          one_le numbers.ones r,
          one_le numbers.twos r,
          one_le numbers.fours r,
          one_le numbers.eights r,
          one_le numbers.sixteens r,
          one_le numbers.thirty_twos r,
        )
