-- The rounds of a season, in order.
use Rattle.std.proofs.Common.{◌≡◌, ℕ, zero, suc, ◌+◌, ◌<◌, ◌≤◌, ◌∷◌, length, take, refl, ap, ◌∙◌, arith}
use Rattle.std.specs.List.{range_with_len}
use Rattle.std.proofs.lemmas.List.FromFn.{length-range_with_len, get_or-range_with_len}
use Rattle.fixtures.specs.Games.{round_count}
use Rattle.draws.specs.Draws.{each_round, AreRoundsOf}

take-range : (a n k : ℕ) → k ≤ n → take k (range_with_len a n) ≡ range_with_len a k
take-range a n zero within = refl
take-range a zero (suc k) within = absurd (omega arith)
take-range a (suc n) (suc k) within = ap (λ rest. a ∷ rest) (take-range (a + 1) n k (omega arith))

-- the first of the rounds of the longest season
pub first_rounds : (n count : ℕ) → count ≡ round_count n → count ≤ 78 → take count (range_with_len 0 78) ≡ each_round n
first_rounds n count is few = take-range 0 78 count few ∙ ap (range_with_len 0) is

pub AreRoundsOf-each : (n : ℕ) → 1 ≤ round_count n → round_count n ≤ 78 → AreRoundsOf n (each_round n)
AreRoundsOf-each n some few =
    let many : length (each_round n) ≡ round_count n = length-range_with_len 0 (round_count n) in
    record {
      some = omega arith;
      few = omega arith;
      in_season = λ k d inside.
          let below : k < round_count n = omega arith in
          rw (get_or-range_with_len 0 (round_count n) k d below) (omega arith);
    }
