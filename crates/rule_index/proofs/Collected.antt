-- Sets that a loop over the rules of a league makes.
use Rattle.std.proofs.Common.{◌≡◌, ℕ, ◌+◌, ◌/◌, ◌%◌, ◌^◌, ◌<◌, ◌≤◌, ◌&&◌, ◌||◌, ◌==◌, nat_lt, Bool, true, false, List, length, get_or, Some, slice_get, slice_set}
use Rattle.std.proofs.Common.{refl, sym, ◌∙◌, ap, inl, inr, arith, subst}
use Rattle.std.specs.Option.{option_map_or}
use Rattle.std.specs.Int.{bit_at}
use Rattle.std.proofs.lemmas.Bool.{cases_eq, cases_lt, eq-eqb, ne_eqb, lt-ltb, le-ltb}
use Rattle.std.proofs.lemmas.Nat.{pow_pos, mod_below, shr_split}
use Rattle.std.proofs.lemmas.Nat.Bits.{bit_at_cat_low}
use Rattle.std.proofs.lemmas.Grind.{get_or-set_at}
use Rattle.std.proofs.lemmas.List.{get_or-set_other}
use Rattle.std.proofs.lemmas.Option.{slice_get_past, slice_get-get_or, get_or_from_slice_get}
use Rattle.league.specs.Sets.{has, IsBelow}
use Rattle.league.specs.declared.rule.Rule.{Rule}
use Rattle.league.specs.declared.rule.RuleBody.{RuleBody}
use Rattle.league.proofs.ForCallers.{has_beyond, same_sets}
use Rattle.rule_index.specs.Alterable.{passes_at}

pub passes_past : (rules : List Rule) (test : RuleBody → Bool) (i : ℕ) → length rules ≤ i → passes_at rules test i ≡ false
unfolding passes_at
passes_past rules test i past = ap (λ o. option_map_or (λ (rule : Rule). test rule.body) o false) (slice_get_past rules i past)

pub passes_here : (rules : List Rule) (test : RuleBody → Bool) (i : ℕ) (rule : Rule) → slice_get rules i ≡ Some rule →
    test rule.body ≡ passes_at rules test i
unfolding passes_at
passes_here rules test i rule is = sym (ap (λ o. option_map_or (λ (r : Rule). test r.body) o false) is)

-- of the first indices those that pass a test
pub record IsCollected (test : ℕ → Bool) (count set : ℕ) : Type 0 where
  pub members : (k : ℕ) → has set k ≡ (nat_lt k count && test k)

pub collected_none : (test : ℕ → Bool) (set : ℕ) → ((k : ℕ) → has set k ≡ false) → IsCollected test 0 set
collected_none test set empty = record { members = λ k. empty k ∙ sym (ap (λ b. b && test k) (le-ltb k 0 (omega arith))) }

pub collected_more : (test : ℕ → Bool) (i set more : ℕ) (belongs : Bool) → IsCollected test i set → belongs ≡ test i →
    ((k : ℕ) → has more k ≡ ((k == i && belongs) || has set k)) → IsCollected test (i + 1) more
collected_more test i set more belongs so_far tested added = record {
  members = λ k. added k ∙ ap (λ b. (k == i && belongs) || b) (so_far.members k) ∙ at k;
}
  where
    or_none : (b c : Bool) → ((true && b) || (false && c)) ≡ (true && b)
    or_none true c = refl
    or_none false c = refl

    at : (k : ℕ) → ((k == i && belongs) || (nat_lt k i && test k)) ≡ (nat_lt k (i + 1) && test k)
    at k = elim (cases_eq k i) [
      | inl here ↦
          ap (λ b. (b && belongs) || (nat_lt k i && test k)) (eq-eqb k i here) ∙
          ap (λ b. (true && belongs) || (b && test k)) (le-ltb k i (omega arith)) ∙ or_none belongs (test k) ∙
          ap (λ b. true && b) (tested ∙ ap test (sym here)) ∙ ap (λ b. b && test k) (sym (lt-ltb k (i + 1) (omega arith)))
      | inr other ↦
          ap (λ b. (b && belongs) || (nat_lt k i && test k)) (ne_eqb k i other) ∙ ap (λ b. b && test k) (one_more k other)
    ]
      where
        one_more : (k : ℕ) → (k ≡ i → ⊥) → nat_lt k i ≡ nat_lt k (i + 1)
        one_more k other = elim (cases_lt k i) [
          | inl lt ↦ lt-ltb k i lt ∙ sym (lt-ltb k (i + 1) (omega arith))
          | inr from ↦ le-ltb k i from ∙ sym (le-ltb k (i + 1) (omega arith))
        ]

-- the set of one more, or without it
module _ (test : ℕ → Bool) (i set : ℕ) (so_far : IsCollected test i set) where
  pub put_in : (more : ℕ) → true ≡ test i → ((k : ℕ) → has more k ≡ (k == i || has set k)) → IsCollected test (i + 1) more
  put_in more passes members =
      collected_more test i set more true so_far passes (λ k. members k ∙ ap (λ b. b || has set k) (is_it (k == i)))
    where
      is_it : (b : Bool) → b ≡ (b && true)
      is_it true = refl
      is_it false = refl

  pub left_out : false ≡ test i → IsCollected test (i + 1) set
  left_out fails = collected_more test i set set false so_far fails (λ k. ap (λ b. b || has set k) (is_not (k == i)))
    where
      is_not : (b : Bool) → false ≡ (b && false)
      is_not true = refl
      is_not false = refl

pub collected_all : (test : ℕ → Bool) (count set : ℕ) → IsCollected test count set → ((k : ℕ) → count ≤ k → test k ≡ false) → (k : ℕ) →
    has set k ≡ test k
collected_all test count set all none_past k = all.members k ∙ elim (cases_lt k count) [
  | inl inside ↦ ap (λ b. b && test k) (lt-ltb k count inside)
  | inr past ↦ ap (λ b. b && test k) (le-ltb k count past) ∙ sym (none_past k past)
]

-- a set that has no number from m on is below m
pub IsBelow_without : (m set : ℕ) → ((k : ℕ) → m ≤ k → has set k ≡ false) → IsBelow m set
IsBelow_without m set none = subst (IsBelow m) (sym same) low
  where
    low : set % 2 ^ m < 2 ^ m
    low = mod_below set (2 ^ m) (pow_pos m)

    same : set ≡ set % 2 ^ m
    same = same_sets set (set % 2 ^ m) (λ k. elim (cases_lt k m) [
      | inl lt ↦
          ap (λ n. n == 1) (ap (λ n. bit_at n k) (sym (shr_split set m)) ∙ bit_at_cat_low (set / 2 ^ m) m (set % 2 ^ m) k lt)
      | inr past ↦ none k past ∙ sym (has_beyond m (set % 2 ^ m) k low past)
    ])

-- what holds of the first rows of a list, and of one more
pub each_row_written : {X : Type 0} (P : ℕ → X → Type 0) (rows : List X) (n : ℕ) (row : X) → n < length rows →
    ((k : ℕ) (x : X) → k < n → slice_get rows k ≡ Some x → P k x) → P n row →
    (k : ℕ) (x : X) → k < n + 1 → slice_get (slice_set rows n row) k ≡ Some x → P k x
each_row_written P rows n row within each last k x below is =
    let read : get_or (slice_set rows n row) k x ≡ x = get_or_from_slice_get (slice_set rows n row) k x x is in
    elim (cases_lt k n) [
      | inl before ↦
          let other : k ≡ n → ⊥ = λ e. absurd (omega (arith, before, e)) in
          each k x before
          (slice_get-get_or rows k x (omega (arith, before, within)) ∙ ap Some (sym (get_or-set_other rows n k row x other) ∙ read))
      | inr from ↦
          let here : k ≡ n = omega (arith, from, below) in
          let same : row ≡ x = sym (get_or-set_at rows n k row x here within) ∙ read in
          subst (λ i. P i x) (sym here) (subst (P n) same last)
    ]
