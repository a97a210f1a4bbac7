-- A tour leads into a set of opponents at least as often as the set needs trips.
use Rattle.std.proofs.Common.{◌≡◌, ◌≢◌, ℕ, ◌+◌, ◌*◌, ◌≤◌, ◌&&◌, not, Bool, true, false, if◌then◌else◌}
use Rattle.std.proofs.Common.{refl, ◌∙◌, ap, arith}
use Rattle.sets.specs.Sums.{count_where}
use Rattle.sets.proofs.ForCallers.{sum_below_none, sum_below_more}
use Rattle.bounds.proofs.Ways.{by_steps, row, row_away, IsWay}

-- a leg from a stop in the set or not to one in it or not, with so many visits, entries and games in a row before
entered_step : (a b : Bool) (most visits entries before after : ℕ) → before ≤ most → (b ≡ true → after ≡ before + 1)
    → visits + (if a then most else 0) ≤ most * entries + (if a then before else 0)
    → (visits + (if b then 1 else 0)) + (if b then most else 0) ≤
    most * (entries + (if not a && b then 1 else 0)) + (if b then after else 0)
entered_step true true most visits entries before after row more so_far = omega (arith, more refl)
entered_step true false most visits entries before after row more so_far = omega arith
entered_step false true most visits entries before after row more so_far = omega (arith, more refl)
entered_step false false most visits entries before after row more so_far = omega arith

pub entered_so_far : (n home most rounds : ℕ) (s : ℕ → ℕ) → IsWay n home most rounds s → (test : ℕ → Bool) → test home ≡ false → (r : ℕ)
    → count_where r (λ k. test (s (k + 1))) + (if test (s r) then most else 0) ≤
    most * count_where r (λ k. not (test (s k)) && test (s (k + 1))) + (if test (s r) then row home s r else 0)
entered_so_far n home most rounds s is test not_home =
    by_steps
    (λ r. count_where r (λ k. test (s (k + 1))) + (if test (s r) then most else 0) ≤
    most * count_where r (λ k. not (test (s k)) && test (s (k + 1))) + (if test (s r) then row home s r else 0))
    (rw (ap test is.first ∙ not_home) (omega (arith, sum_below_none (λ k. if test (s (k + 1)) then 1 else 0))))
    (λ r so_far.
    rw (
      sum_below_more r (λ k. if test (s (k + 1)) then 1 else 0),
      sum_below_more r (λ k. if not (test (s k)) && test (s (k + 1)) then 1 else 0),
    )
    (entered_step (test (s r)) (test (s (r + 1))) most _ _ (row home s r) (row home s (r + 1)) (is.rows r)
    (λ inside. row_away home s r (λ at_home. away_inside (r + 1) inside at_home)) so_far))
  where
    away_inside : (r : ℕ) → test (s r) ≡ true → s r ≢ home
    away_inside r inside at_home = cc (ap test at_home, not_home, inside)

-- as many visits as the set has teams
pub entered_enough : (n home most rounds : ℕ) (s : ℕ → ℕ) → IsWay n home most rounds s → (test : ℕ → Bool) → test home ≡ false
    → count_where n test ≤ most * count_where (rounds + 1) (λ k. not (test (s k)) && test (s (k + 1)))
entered_enough n home most rounds s is test not_home =
    let outside : test (s (rounds + 1)) ≡ false = ap test is.last ∙ not_home in
    let all = rw outside at (entered_so_far n home most rounds s is test not_home (rounds + 1)) in
    omega (arith, all, is.visits test not_home)
