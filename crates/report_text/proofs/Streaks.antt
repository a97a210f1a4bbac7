-- Streaks of numbers that pass.
use Rattle.std.proofs.Common.{◌≡◌, ℕ, zero, suc, ◌+◌, ◌≤◌, Bool, inl, inr, refl, arith}
use Rattle.std.specs.Prelude.{if◌then◌else◌}
use Rattle.std.proofs.lemmas.Bool.{cases_Bool}
use Rattle.report_text.specs.Runs.{streak}

pub streak_within : (test : ℕ → Bool) (k : ℕ) → streak test k ≤ k
streak_within test zero = omega arith
streak_within test (suc k) =
    let before = streak_within test k in
    elim (cases_Bool (test k)) [ inl e ↦ rw e (omega arith) | inr e ↦ rw e (omega arith) ]

-- one number more
pub streak_more : (test : ℕ → Bool) (k count : ℕ) (goes_on : Bool) → goes_on ≡ test k → count ≡ streak test k →
    (if goes_on then count + 1 else 0) ≡ streak test (k + 1)
streak_more test k count goes_on is so_far =
    let next : k + 1 ≡ suc k = omega arith in
    rw (is, so_far, next) refl
