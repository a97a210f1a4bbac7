-- Sets of numbers by the tests that their members pass.
use Rattle.std.proofs.Common.{◌≡◌, ◌≢◌, ℕ, zero, suc, ◌<◌, ◌≤◌, ◌⊎◌, inl, inr, Bool, true, false, ◌&&◌, ◌||◌, cond, eqb}
use Rattle.std.proofs.Common.{ltb, refl, sym, ◌∙◌, ap, arith}
use Rattle.std.proofs.lemmas.Bool.{cases_eq, cases_lt, and_from, and_right, or_left, eqb-true, eqb-false, eq-eqb, ne_eqb, lt-ltb, le-ltb}
use Rattle.std.proofs.lemmas.Nat.Bits.{same_from_bits, bit_at-lt}
use Rattle.std.specs.Int.{bit_at}
use Rattle.league.specs.Sets.{has, with_number}
use Rattle.league.proofs.ForCallers.{has_with_number}
use Rattle.league.proofs.ForCallers.{has_empty}
use Rattle.moves.specs.ExchangeOf.{set_where}

-- sets with the same members are one
pub same_set : (a b : ℕ) → ((k : ℕ) → has a k ≡ has b k) → a ≡ b
same_set a b same =
    same_from_bits a b (λ k. bits (bit_at a k) (bit_at b k) (bit_at-lt a k) (bit_at-lt b k) (same k))
  where
    bits : (x y : ℕ) → x < 2 → y < 2 → eqb x 1 ≡ eqb y 1 → x ≡ y
    bits x y in_x in_y e =
        elim (cases_eq x 1) [
          | inl one ↦ one ∙ sym (eqb-true y 1 (sym e ∙ eq-eqb x 1 one))
          | inr none ↦ zeros x y none (eqb-false y 1 (sym e ∙ ne_eqb x 1 none)) in_x in_y
        ]
      where
        zeros : (x y : ℕ) → x ≢ 1 → y ≢ 1 → x < 2 → y < 2 → x ≡ y
        zeros x y not_x not_y in_x in_y = omega arith

pub has-set_where : (n : ℕ) (passes : ℕ → Bool) (k : ℕ) → has (set_where n passes) k ≡ (ltb k n && passes k)
unfolding set_where
has-set_where zero passes k = has_empty k ∙ sym (ap (λ b. b && passes k) (le-ltb k 0 (omega arith)))
has-set_where (suc n) passes k = by_cases (passes n) refl (cases_eq k n) (has-set_where n passes k)
  where
    other_below : k ≢ n → ltb k n ≡ ltb k (suc n)
    other_below other =
        elim (cases_lt k n) [
          | inl lt ↦ lt-ltb k n lt ∙ sym (lt-ltb k (suc n) (omega arith))
          | inr le ↦ le-ltb k n le ∙ sym (le-ltb k (suc n) (above other le))
        ]
      where
        above : k ≢ n → n ≤ k → suc n ≤ k
        above other le = omega arith

    by_cases : (b : Bool) → passes n ≡ b → (k ≡ n) ⊎ (k ≢ n) →
        has (set_where n passes) k ≡ (ltb k n && passes k) →
        has (cond b (with_number (set_where n passes) n) (set_where n passes)) k ≡ (ltb k (suc n) && passes k)
    by_cases true e (inl same) _ =
        has_with_number (set_where n passes) n k ∙ or_left _ _ (eq-eqb k n same) ∙
        sym (and_from _ _ (lt-ltb k (suc n) (omega arith)) (ap passes same ∙ e))
    by_cases true e (inr other) less =
        has_with_number (set_where n passes) n k ∙ ap (λ b. b || has (set_where n passes) k) (ne_eqb k n other) ∙
        less ∙ ap (λ b. b && passes k) (other_below other)
    by_cases false e (inl same) less =
        less ∙ and_right _ _ (ap passes same ∙ e) ∙ sym (and_right _ _ (ap passes same ∙ e))
    by_cases false e (inr other) less = less ∙ ap (λ b. b && passes k) (other_below other)

-- the same where all that pass are below n
pub has-set_of_all : (n : ℕ) (passes : ℕ → Bool) → ((k : ℕ) → passes k ≡ true → k < n) → (k : ℕ) →
    has (set_where n passes) k ≡ passes k
has-set_of_all n passes below k = has-set_where n passes k ∙ by_test (passes k) (below k)
  where
    by_test : (b : Bool) → (b ≡ true → k < n) → (ltb k n && b) ≡ b
    by_test true lt = ap (λ x. x && true) (lt-ltb k n (lt refl))
    by_test false _ = and_right _ _ refl
