-- Sets that are cut off at the end of the teams or of the season.
use Rattle.std.proofs.Common.{◌≡◌, ℕ, ◌+◌, ◌<◌, ◌&&◌, ◌||◌, refl, ◌∙◌, ap, arith}
use Rattle.std.specs.Prelude.{nat_lt}
use Rattle.std.proofs.lemmas.Bool.{lt-ltb}
use Rattle.std.proofs.Math.Nat.{add-zero}
use Rattle.league.specs.Sums.{any_below}
use Rattle.league.specs.Sets.{has}

-- a number below the end is in the cut set where it is in the whole
pub has_cut : (end n all set cut : ℕ) → end ≡ n → ((k : ℕ) → has all k ≡ nat_lt k end) → ((k : ℕ) → has cut k ≡ (has all k && has set k)) →
    (k : ℕ) → k < n → has cut k ≡ has set k
has_cut end n all set cut is_end is_all is_cut k below = is_cut k ∙ ap (λ b. b && has set k) (is_all k ∙ lt-ltb k end (omega arith))

pub has_two : (set k : ℕ) → any_below 2 (λ j. has set (k + j)) ≡ (has set k || has set (k + 1))
unfolding any_below
has_two set k = rw (add-zero k) refl
