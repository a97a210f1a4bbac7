-- Lists with a single item that passes a test.
use Rattle.std.proofs.Common.{◌≡◌, ℕ, zero, suc, ◌+◌, ◌<◌, Bool, true, false, cond, inl, inr, List, [], ◌∷◌, length, get_or, refl, sym, ◌∙◌}
use Rattle.std.proofs.Common.{ap, arith}
use Rattle.std.specs.Prelude.{count_by}
use Rattle.std.proofs.lemmas.Bool.{cases_Bool, both_ways, false_from_ne_true}
use Rattle.std.proofs.lemmas.List.Sums.{get_or-le-sum_by, sum_by-cons}

-- the item at this index passes, and no other one does
pub record IsLone {X : Type 0} (p : X → Bool) (xs : List X) (d : X) (k : ℕ) : Type 0 where
  pub within : k < length xs
  pub passes : p (get_or xs k d) ≡ true
  pub alone : (j : ℕ) → j < length xs → p (get_or xs j d) ≡ true → j ≡ k

module _ {X : Type 0} (p : X → Bool) (d : X) where
  count-cons : (x : X) (xs : List X) → count_by p (x ∷ xs) ≡ cond (p x) 1 0 + count_by p xs
  count-cons x xs = sum_by-cons (λ y. cond (p y) 1 0) x xs

  fails_all : (xs : List X) → count_by p xs ≡ 0 → (j : ℕ) → j < length xs → p (get_or xs j d) ≡ true → ⊥
  fails_all xs none j within passes =
      let least = rw passes at (get_or-le-sum_by (λ y. cond (p y) 1 0) xs j d within) in
      omega (arith, none, least)

  none_passes : (xs : List X) → ((j : ℕ) → j < length xs → p (get_or xs j d) ≡ true → ⊥) → count_by p xs ≡ 0
  none_passes [] fail = refl
  none_passes (x ∷ xs) fail =
      let first : p x ≡ false = false_from_ne_true (p x) (fail 0 (omega arith)) in
      count-cons x xs ∙ rw first (omega (arith, none_passes xs (λ j within. fail (suc j) (omega (arith, within)))))

  pub lone_counted : (xs : List X) → count_by p xs ≡ 1 → (k : ℕ) × IsLone p xs d k
  lone_counted [] one = absurd (omega (arith, one))
  lone_counted (x ∷ xs) one = elim (cases_Bool (p x)) [
    | inl passes ↦
        let rest : count_by p xs ≡ 0 = omega (arith, rw passes at (sym (count-cons x xs) ∙ one)) in
        (0, record { within = omega arith; passes = passes; alone = first passes rest })
    | inr fails ↦
        let rest : count_by p xs ≡ 1 = omega (arith, rw fails at (sym (count-cons x xs) ∙ one)) in
        let later = lone_counted xs rest in
        (suc later.0, record { within = omega (arith, later.1.within); passes = later.1.passes; alone = after fails later.0 later.1 })
  ]
    where
      first : p x ≡ true → count_by p xs ≡ 0 → (j : ℕ) → j < length (x ∷ xs) → p (get_or (x ∷ xs) j d) ≡ true → j ≡ 0
      first passed rest zero within passes = refl
      first passed rest (suc j) within passes = absurd (fails_all xs rest j (omega (arith, within)) passes)

      after : p x ≡ false → (k : ℕ) → IsLone p xs d k → (j : ℕ) → j < length (x ∷ xs) → p (get_or (x ∷ xs) j d) ≡ true → j ≡ suc k
      after failed k lone zero within passes = absurd (both_ways (p x) failed passes)
      after failed k lone (suc j) within passes = ap suc (lone.alone j (omega (arith, within)) passes)

  pub counted_lone : (xs : List X) (k : ℕ) → IsLone p xs d k → count_by p xs ≡ 1
  counted_lone [] k lone = absurd (omega (arith, lone.within))
  counted_lone (x ∷ xs) zero lone =
      let rest : count_by p xs ≡ 0 = none_passes xs (λ j within passes. omega (arith, lone.alone (suc j) (omega (arith, within)) passes)) in
      count-cons x xs ∙ rw lone.passes (omega (arith, rest))
  counted_lone (x ∷ xs) (suc k) lone =
      let no : p x ≡ false = false_from_ne_true (p x) (λ passes. omega (arith, lone.alone 0 (omega arith) passes)) in
      let rest : count_by p xs ≡ 1 = counted_lone xs k (record {
        within = omega (arith, lone.within);
        passes = lone.passes;
        alone = λ j within passes. omega (arith, lone.alone (suc j) (omega (arith, within)) passes);
      }) in
      count-cons x xs ∙ rw no (omega (arith, rest))
