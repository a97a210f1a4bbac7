-- What a loop over the numbers of a set has come to, and what is left.
use Rattle.std.proofs.Common.{◌≡◌, ◌≢◌, ℕ, ◌&&◌, not, Bool, true, false, refl, sym, ◌∙◌, ap, inl, inr, arith}
use Rattle.std.proofs.Math.Bool.{and-false, and-true}
use Rattle.std.proofs.lemmas.Bool.{cases_eq, false≢true}
use Rattle.league.specs.Sets.{has, IsBelow}
use Rattle.league.specs.within.Sets.{IsWithoutLowest}
use Rattle.league.proofs.ForCallers.{has_empty, lowest_gone, others_kept}

-- in a loop over a set some are left
pub record IsLeft (n all left : ℕ) : Type 0 where
  pub below : IsBelow n left
  pub within : (k : ℕ) → has left k ≡ true → has all k ≡ true

pub left_whole : (n all left : ℕ) → IsBelow n all → left ≡ all → IsLeft n all left
left_whole n all left below same = record {
  below = rw same below;
  within = λ k here. ap (λ s. has s k) (sym same) ∙ here;
}

pub left_fewer : (n all left lowest rest : ℕ) → IsLeft n all left → IsWithoutLowest left lowest rest → IsLeft n all rest
left_fewer n all left lowest rest so_far taken = record {
  below = omega (arith, so_far.below, taken.fewer);
  within = λ k here. elim (cases_eq k lowest) [
    | inl same ↦ absurd (false≢true (sym (lowest_gone left lowest rest taken) ∙ ap (has rest) (sym same) ∙ here))
    | inr apart ↦ so_far.within k (sym (others_kept left lowest rest k taken apart) ∙ here)
  ];
}

-- those that aren't left
abbrev pub gone : ℕ → ℕ → ℕ → Bool
gone all left k = has all k && not (has left k)

pub gone_none : (all left k : ℕ) → left ≡ all → gone all left k ≡ false
gone_none all left k same = ap (λ s. has all k && not (has s k)) same ∙ neither (has all k)
  where
    neither : (b : Bool) → (b && not b) ≡ false
    neither true = refl
    neither false = refl

pub gone_all : (all left k : ℕ) → left ≡ 0 → gone all left k ≡ has all k
gone_all all left k none = ap (λ b. has all k && not b) (ap (λ s. has s k) none ∙ has_empty k) ∙ and-true (has all k)

module _ (n all left lowest rest : ℕ) (so_far : IsLeft n all left) (taken : IsWithoutLowest left lowest rest) where
  pub gone_before : gone all left lowest ≡ false
  gone_before = ap (λ b. has all lowest && not b) taken.in_set ∙ and-false (has all lowest)

  pub gone_now : gone all rest lowest ≡ true
  gone_now = rw (so_far.within lowest taken.in_set, lowest_gone left lowest rest taken) refl

  pub gone_same : (k : ℕ) → k ≢ lowest → gone all rest k ≡ gone all left k
  gone_same k apart = ap (λ b. has all k && not b) (others_kept left lowest rest k taken apart)
