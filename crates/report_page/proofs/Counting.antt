-- How many pass a test, counted in a loop.
use Rattle.std.proofs.Common.{◌≡◌, ℕ, ◌+◌, ◌≤◌, Bool, true, false, if◌then◌else◌, refl, arith}
use Rattle.std.specs.Int.{from_bool}
use Rattle.league.specs.Sums.{count_where}
use Rattle.league.proofs.ForCallers.{sum_below_more}

pub one_at_most : (passes : Bool) (step : ℕ) → step ≡ from_bool passes → step ≤ 1
one_at_most true step is = let one : step ≡ 1 = is in omega (arith, one)
one_at_most false step is = let none : step ≡ 0 = is in omega (arith, none)

-- one number more
pub counted_more : (n : ℕ) (test : ℕ → Bool) (before step : ℕ) (passes : Bool) → before ≡ count_where n test → passes ≡ test n →
    step ≡ from_bool passes → before + step ≡ count_where (n + 1) test
counted_more n test before step true so_far passes is =
    let one : step ≡ 1 = is in
    let here : ◌≡◌ {A = ℕ} (if test n then 1 else 0) 1 = rw (← passes) refl in
    omega (arith, sum_below_more n (λ k. if test k then 1 else 0), here, so_far, one)
counted_more n test before step false so_far passes is =
    let none : step ≡ 0 = is in
    let here : ◌≡◌ {A = ℕ} (if test n then 1 else 0) 0 = rw (← passes) refl in
    omega (arith, sum_below_more n (λ k. if test k then 1 else 0), here, so_far, none)
