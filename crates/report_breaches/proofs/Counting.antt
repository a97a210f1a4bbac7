-- Counts over the numbers from the first on.
use Rattle.std.proofs.Common.{◌≡◌, ℕ, ◌+◌, ◌-◌, ◌≤◌, Bool, if◌then◌else◌, sym, ap, arith}
use Rattle.league.specs.Sums.{count_where}
use Rattle.league.proofs.ForCallers.{sum_below_none, sum_below_more}

pub none_yet : (first : ℕ) (test : ℕ → Bool) → 0 ≡ count_where (first - first) test
none_yet first test =
    let none : first - first ≡ 0 = omega arith in
    rw none (sym (sum_below_none (λ k. if test k then 1 else 0)))

pub one_more : (first k : ℕ) (test : ℕ → Bool) → first ≤ k →
    count_where (k + 1 - first) (λ i. test (first + i)) ≡ count_where (k - first) (λ i. test (first + i)) + (if test k then 1 else 0)
one_more first k test after =
    let here : first + (k - first) ≡ k = omega arith in
    let next : k + 1 - first ≡ (k - first) + 1 = omega arith in
    omega (
      arith,
      ap (λ n. count_where n (λ i. test (first + i))) next,
      sum_below_more (k - first) (λ i. if test (first + i) then 1 else 0),
      ap {B = ℕ} (λ r. if test r then 1 else 0) here,
    )
