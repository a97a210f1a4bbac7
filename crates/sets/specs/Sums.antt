-- Sums and counts over the numbers below n.
use Rattle.std.specs.Prelude.{ℕ, zero, suc, ◌+◌, ◌&&◌, ◌||◌, Bool, true, false, if◌then◌else◌}

unfoldable pub sum_below : ℕ → (ℕ → ℕ) → ℕ
sum_below zero f = 0
sum_below (suc n) f = sum_below n f + f n

-- the sum over those that pass a test
abbrev pub sum_where : ℕ → (ℕ → Bool) → (ℕ → ℕ) → ℕ
sum_where n test f = sum_below n (λ k. if test k then f k else 0)

-- how many pass a test
abbrev pub count_where : ℕ → (ℕ → Bool) → ℕ
count_where n test = sum_below n (λ k. if test k then 1 else 0)

-- the sum over pairs of two distinct numbers, each pair once, the lower number first
abbrev pub sum_of_pairs : ℕ → (ℕ → ℕ → ℕ) → ℕ
sum_of_pairs n f = sum_below n (λ j. sum_below j (λ i. f i j))

-- whether all pass
unfoldable pub all_below : ℕ → (ℕ → Bool) → Bool
all_below zero test = true
all_below (suc n) test = all_below n test && test n

-- whether one passes
unfoldable pub any_below : ℕ → (ℕ → Bool) → Bool
any_below zero test = false
any_below (suc n) test = any_below n test || test n
