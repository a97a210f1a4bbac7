-- Searches over the numbers of a set, made for each of them alone.
use Rattle.std.proofs.Common.{◌≡◌, ℕ, zero, suc, ◌<◌, ◌&&◌, ◌||◌, ◌==◌, not, Bool, true, false, refl, sym, ◌∙◌, ap, inl, inr, arith}
use Rattle.std.proofs.Math.Bool.{or-false}
use Rattle.std.proofs.lemmas.Bool.{cases_eq, eq-eqb, eqb-true, or_cases, or_left, or_right, and_parts, and_from, false≢true}
use Rattle.league.specs.Sets.{has}
use Rattle.league.specs.within.Sets.{IsWithoutLowest}
use Rattle.league.specs.Sums.{any_below}
use Rattle.league.proofs.ForCallers.{any_below_found, has_with_number, has_empty, others_kept}
use Rattle.rule_index.specs.Index.{alone}

pub same_from_both : (a b : Bool) → (a ≡ true → b ≡ true) → (b ≡ true → a ≡ true) → a ≡ b
same_from_both true b to from = sym (to refl)
same_from_both false true to from = from refl
same_from_both false false to from = refl

-- one that passes
pub any_below_one : (n : ℕ) (test : ℕ → Bool) → any_below n test ≡ true → (k : ℕ) × (k < n) × (test k ≡ true)
unfolding any_below
any_below_one zero test passes = absurd (false≢true passes)
any_below_one (suc n) test passes = elim (or_cases (any_below n test) (test n) passes) [
  | inl before ↦ let one = any_below_one n test before in (one.0, omega arith, one.2)
  | inr here ↦ (n, omega arith, here)
]

pub any_below_grows : (n : ℕ) (test other : ℕ → Bool) → ((k : ℕ) → k < n → test k ≡ true → other k ≡ true) → any_below n test ≡ true →
    any_below n other ≡ true
any_below_grows n test other grows passes =
    let one = any_below_one n test passes in any_below_found n other one.0 one.1 (grows one.0 one.1 one.2)

-- the set of one number

pub has_alone : (k j : ℕ) → has (alone k) j ≡ (j == k)
has_alone k j = has_with_number 0 k j ∙ ap (λ b. j == k || b) (has_empty j) ∙ or-false (j == k)

pub in_alone : (k : ℕ) → has (alone k) k ≡ true
in_alone k = has_alone k k ∙ eq-eqb k k refl

pub alone_only : (k j : ℕ) → has (alone k) j ≡ true → j ≡ k
alone_only k j is = eqb-true j k (sym (has_alone k j) ∙ is)

-- a search finds what it finds for one number alone
pub record IsFoundByOne (n : ℕ) (search_in : (ℕ → Bool) → Bool) : Type 0 where
  pub grows : (p q : ℕ → Bool) → ((k : ℕ) → p k ≡ true → q k ≡ true) → search_in p ≡ true → search_in q ≡ true
  pub found : (p : ℕ → Bool) → search_in p ≡ true → (k : ℕ) × (p k ≡ true) × (search_in (has (alone k)) ≡ true)

pub by_one : (n : ℕ) (search_in : (ℕ → Bool) → Bool) (p : ℕ → Bool) → IsFoundByOne n search_in → ((k : ℕ) → p k ≡ true → k < n) →
    search_in p ≡ any_below n (λ k. p k && search_in (has (alone k)))
by_one n search_in p is below =
    same_from_both (search_in p) (any_below n (λ k. p k && search_in (has (alone k))))
    (λ passes.
    let one = is.found p passes in
    any_below_found n (λ k. p k && search_in (has (alone k))) one.0 (below one.0 one.1)
    (and_from (p one.0) (search_in (has (alone one.0))) one.1 one.2))
    (λ passes.
    let one = any_below_one n (λ k. p k && search_in (has (alone k))) passes in
    let parts = and_parts (p one.0) (search_in (has (alone one.0))) one.2 in
    is.grows (has (alone one.0)) p (λ k in_k. ap p (alone_only one.0 k in_k) ∙ parts.0) parts.1)

-- the lowest number of a set, or one of the others
pub any_lowest : (n set lowest rest : ℕ) (test : ℕ → Bool) → IsWithoutLowest set lowest rest → lowest < n →
    any_below n (λ k. has set k && test k) ≡ (test lowest || any_below n (λ k. has rest k && test k))
any_lowest n set lowest rest test taken in_range =
    same_from_both (any_below n (λ k. has set k && test k)) (test lowest || any_below n (λ k. has rest k && test k))
    (λ passes.
    let one = any_below_one n (λ k. has set k && test k) passes in
    let parts = and_parts (has set one.0) (test one.0) one.2 in
    elim (cases_eq one.0 lowest) [
      | inl same ↦ or_left (test lowest) (any_below n (λ k. has rest k && test k)) (sym (ap test same) ∙ parts.1)
      | inr other ↦
          or_right (test lowest) (any_below n (λ k. has rest k && test k))
          (any_below_found n (λ k. has rest k && test k) one.0 one.1
          (and_from (has rest one.0) (test one.0) (others_kept set lowest rest one.0 taken other ∙ parts.0) parts.1))
    ])
    (λ passes. elim (or_cases (test lowest) (any_below n (λ k. has rest k && test k)) passes) [
      | inl here ↦
          any_below_found n (λ k. has set k && test k) lowest in_range (and_from (has set lowest) (test lowest) taken.in_set here)
      | inr other ↦
          any_below_grows n (λ k. has rest k && test k) (λ k. has set k && test k)
          (λ k below both.
          let parts = and_parts (has rest k) (test k) both in
          let in_set = and_parts (has set k) (not (k == lowest)) (sym (taken.others k) ∙ parts.0) in
          and_from (has set k) (test k) in_set.0 parts.1)
          other
    ])
