-- The first pair that is further apart one way.
use Rattle.std.proofs.Common.{◌≡◌, ℕ, zero, suc, ◌≤◌, ◌/◌, ◌%◌, List, Option, Some, None, refl, inl, inr, arith, sym, true, is_some}
use Rattle.std.proofs.Math.Nat.{eq-or-lt_of_le}
use Rattle.league_csv.specs.declared.fault.Asymmetry.{Asymmetry}
use Rattle.league_csv.specs.declared.measures.Measure.{Measure}
use Rattle.league_csv.specs.Sides.{asymmetry, asymmetry_below}

-- it stays the first, however many more are looked at
module _ (n : ℕ) (rows : List (List Measure)) (k : ℕ) (pair : Asymmetry) (before : asymmetry_below n rows k ≡ None)
    (found : asymmetry rows (k / n) (k % n) ≡ Some pair) where
  pub first_found : (more : ℕ) → suc k ≤ more → asymmetry_below n rows more ≡ Some pair
  unfolding asymmetry_below
  first_found zero within = absurd (omega (arith, within))
  first_found (suc more) within = elim (eq-or-lt_of_le within) [
    | inl same ↦ let last : more ≡ k = omega (arith, same) in rw (last, before, found) refl
    | inr past ↦ rw (first_found more (omega (arith, past))) refl
  ]

pub first_is : (n : ℕ) (rows : List (List Measure)) (k more : ℕ) (found : Option Asymmetry) → asymmetry_below n rows k ≡ None
    → found ≡ asymmetry rows (k / n) (k % n) → true ≡ is_some found → suc k ≤ more → found ≡ asymmetry_below n rows more
first_is n rows k more None before is some within = absurd cc
first_is n rows k more (Some pair) before is some within = sym (first_found n rows k pair before (sym is) more within)
