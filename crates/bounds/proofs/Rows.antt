-- A team without a run has no longer rows than are allowed.
use Rattle.std.proofs.Common.{◌≡◌, ◌≢◌, ℕ, zero, suc, ◌+◌, ◌-◌, ◌<◌, ◌≤◌, ◌||◌, not, Bool, true, false, if◌then◌else◌}
use Rattle.std.proofs.Common.{refl, ◌∙◌, ap, inl, inr, arith}
use Rattle.std.proofs.lemmas.Bool.{cases_eq, cases_lt, cond-true, and_from, or_right}
use Rattle.sets.specs.Sums.{sum_below, count_where, all_below}
use Rattle.sets.proofs.ForCallers.{sum_below_more}
use Rattle.bounds.proofs.Ways.{by_steps, row, row_none, row_home, row_away, sum_below_longer}

pub all_below_each : (n : ℕ) (test : ℕ → Bool) → ((k : ℕ) → k < n → test k ≡ true) → all_below n test ≡ true
unfolding all_below
all_below_each zero test each = refl
all_below_each (suc n) test each =
    and_from (all_below n test) (test n) (all_below_each n test (λ k below. each k (omega arith))) (each n (omega arith))

-- each term of a sum that is 0
pub each_zero : (n : ℕ) (f : ℕ → ℕ) → sum_below n f ≡ 0 → (k : ℕ) → k < n → f k ≡ 0
each_zero n f none k below = omega (arith, none, sum_below_more k f, sum_below_longer (k + 1) n f (omega arith))

pub none_passes : (n : ℕ) (test : ℕ → Bool) → count_where n test ≡ 0 → (k : ℕ) → k < n → test k ≡ true → ⊥
none_passes n test none k below passes =
    omega (
      arith,
      each_zero n (λ j. if test j then 1 else 0) none k below,
      cond-true {A = ℕ} (test k) 1 0 passes,
    )

-- the stops of a row are away
pub away_in_row : (home : ℕ) (s : ℕ → ℕ) (r k : ℕ) → k < row home s r → (k < r) × (s (r - k) ≢ home)
away_in_row home s =
    by_steps (λ r. (k : ℕ) → k < row home s r → (k < r) × (s (r - k) ≢ home))
    (λ k below. absurd (omega (arith, row_none home s)))
    (λ r before k below. elim (cases_eq (s (r + 1)) home) [
      | inl at_home ↦ absurd (omega (arith, row_home home s r at_home))
      | inr away ↦ elim (cases_eq k 0) [
        | inl last ↦ (
          omega arith,
          λ e. away (ap s (let same : r + 1 ≡ r + 1 - k = omega arith in same) ∙ e),
        )
        | inr earlier ↦
            let so_far = before (k - 1) (omega (arith, row_away home s r away)) in (
              omega (arith, so_far.0),
              λ e. so_far.1 (ap s (let same : r - (k - 1) ≡ r + 1 - k = omega (arith, so_far.0) in same) ∙ e),
            )
      ]
    ])

-- windows of one round more than allowed, none of them at home throughout or away throughout
pub rows_within : (home : ℕ) (s : ℕ → ℕ) (rounds most : ℕ) (at_home : ℕ → Bool)
    → ((q : ℕ) → s q ≢ home → q ≤ rounds)
    → ((q : ℕ) → q < rounds → s (q + 1) ≢ home → at_home q ≡ false)
    → count_where (rounds + 1 - (most + 1)) (λ first. all_below (most + 1) (λ k. at_home (first + k)) ||
    all_below (most + 1) (λ k. not (at_home (first + k)))) ≡ 0
    → (r : ℕ) → row home s r ≤ most
rows_within home s rounds most at_home within guest none r = elim (cases_lt most (row home s r)) [
  | inr short ↦ short
  | inl long ↦
      let last = away_in_row home s r 0 (omega arith) in
      let in_r : r ≤ rounds = within r (λ e. last.1 (ap s (let same : r - 0 ≡ r = omega arith in same) ∙ e)) in
      let first = away_in_row home s r most long in
      absurd (none_passes (rounds + 1 - (most + 1)) _ none (r - (most + 1)) (omega (arith, first.0))
      (or_right (all_below (most + 1) (λ k. at_home (r - (most + 1) + k))) (all_below (most + 1) (λ k. not (at_home (r - (most + 1) + k))))
      (all_below_each (most + 1) (λ k. not (at_home (r - (most + 1) + k)))
      (λ k below.
      let it = away_in_row home s r (most - k) (omega arith) in
      ap not (guest (r - (most + 1) + k) (omega (arith, first.0))
      (λ e. it.1 (ap s (let same : r - (most - k) ≡ r - (most + 1) + k + 1 = omega (arith, first.0) in same) ∙ e)))))))
]
