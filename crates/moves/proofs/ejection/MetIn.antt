-- The opponents of a team that a loop over some rounds has met.
use Rattle.std.proofs.Common.{◌≡◌, ◌≢◌, ℕ, ◌<◌, inl, inr, Bool, true, false, not, ◌&&◌, ◌||◌, eqb, ltb, refl, sym, ◌∙◌, ap, ap₂}
use Rattle.std.proofs.lemmas.Bool.{cases_eq, and_parts, and_from, and_right, or_parts, or_left, or_right, eq-eqb}
use Rattle.std.proofs.lemmas.Bool.{ne_eqb, eqb-false, lt-ltb, ltb-true}
use Rattle.league.specs.Sets.{has}
use Rattle.league.specs.within.Sets.{IsWithoutLowest}
use Rattle.league.proofs.ForCallers.{has_empty}
use Rattle.fixtures.specs.Games.{Games, round_of, IsPair, IsDoubleRoundRobin}
use Rattle.fixtures.proofs.ForCallers.{Meets, same_opponent, and_agree, or_agree}

-- i and j, and the opponents of i in the rounds that pass
abbrev pub opponents_in : Games → ℕ → ℕ → (ℕ → Bool) → ℕ → Bool
opponents_in g i j passes t =
    eqb t i || eqb t j || (ltb t g.teams && (passes (round_of g i t) || passes (round_of g t i)))

-- whether the round is of the set and no longer left
abbrev pub is_passed : ℕ → ℕ → ℕ → Bool
is_passed all left r = has all r && not (has left r)

-- the rounds that are left are of the set, and the opponents in its others were met
pub record IsMetIn (g : Games) (i j all left found : ℕ) : Type 0 where
  pub within : (r : ℕ) → has left r ≡ true → has all r ≡ true
  pub is_met : (t : ℕ) → has found t ≡ opponents_in g i j (is_passed all left) t

-- tests that agree on the rounds of i's games give the same opponents
opponents_same : (g : Games) (i j : ℕ) (old new : ℕ → Bool) (t : ℕ) →
    (t ≢ i → t < g.teams →
    (old (round_of g i t) ≡ new (round_of g i t)) × (old (round_of g t i) ≡ new (round_of g t i))) →
    opponents_in g i j old t ≡ opponents_in g i j new t
opponents_same g i j old new t same =
    or_agree (eqb t i || eqb t j) _ _ (λ out. and_agree (ltb t g.teams) _ _ (λ below.
    let agree = same (eqb-false t i (or_parts (eqb t i) (eqb t j) out).0) (ltb-true t g.teams below) in
    ap₂ (λ x y. x || y) agree.0 agree.1))

-- the opponent in the lowest round that is left is met
module _ (g : Games) (rr : IsDoubleRoundRobin g) (i j all left lowest rest found new o : ℕ)
    (met : IsMetIn g i j all left found)
    (taken : IsWithoutLowest left lowest rest) (meets : Meets g i o lowest)
    (put : (t : ℕ) → has new t ≡ (eqb t o || has found t)) where
  other_round : (r : ℕ) → r ≢ lowest → is_passed all left r ≡ is_passed all rest r
  other_round r ne = ap (λ b. has all r && not b)
      (sym (taken.others r ∙ ap (λ b. has left r && not b) (ne_eqb r lowest ne) ∙ kept (has left r)))
    where
      kept : (x : Bool) → (x && true) ≡ x
      kept true = refl
      kept false = refl

  lowest_passed : is_passed all rest lowest ≡ true
  lowest_passed =
      and_from _ _ (met.within lowest taken.in_set)
      (ap not (taken.others lowest ∙ ap (λ b. has left lowest && not b) (eq-eqb lowest lowest refl) ∙
      and_right (has left lowest) false refl))

  at_opponent : (t : ℕ) → t ≡ o → opponents_in g i j (is_passed all rest) t ≡ true
  at_opponent t e =
      ap (opponents_in g i j (is_passed all rest)) e ∙
      or_right _ _ (and_from (ltb o g.teams) _ (lt-ltb o g.teams meets.0.away_in) (elim meets.1 [
        | inl at_home ↦ or_left _ _ (ap (is_passed all rest) at_home ∙ lowest_passed)
        | inr away ↦ or_right (is_passed all rest (round_of g i o)) _ (ap (is_passed all rest) away ∙ lowest_passed)
      ]))

  at_other : (t : ℕ) → t ≢ o → opponents_in g i j (is_passed all left) t ≡ opponents_in g i j (is_passed all rest) t
  at_other t ne =
      opponents_same g i j (is_passed all left) (is_passed all rest) t (λ not_i below.
      let pair : IsPair g.teams i t = record {
        home_in = meets.0.home_in;
        away_in = below;
        distinct = λ e. not_i (sym e);
      } in (
        other_round (round_of g i t) (λ e. ne (same_opponent g rr i t o lowest (pair, inl e) meets)),
        other_round (round_of g t i) (λ e. ne (same_opponent g rr i t o lowest (pair, inr e) meets)),
      ))

  pub met_more : IsMetIn g i j all rest new
  met_more = record {
    within = λ r e. met.within r (and_parts (has left r) (not (eqb r lowest)) (sym (taken.others r) ∙ e)).0;
    is_met = λ t. elim (cases_eq t o) [
      | inl e ↦ put t ∙ or_left _ _ (eq-eqb t o e) ∙ sym (at_opponent t e)
      | inr ne ↦ put t ∙ ap (λ b. b || has found t) (ne_eqb t o ne) ∙ met.is_met t ∙ at_other t ne
    ];
  }

pub met_all : (g : Games) (i j all left found : ℕ) → IsMetIn g i j all left found → left ≡ 0 → (t : ℕ) →
    has found t ≡ opponents_in g i j (has all) t
met_all g i j all left found met none_left t =
    met.is_met t ∙ opponents_same g i j (is_passed all left) (has all) t
    (λ _ _. (passed (round_of g i t), passed (round_of g t i)))
  where
    passed : (r : ℕ) → is_passed all left r ≡ has all r
    passed r = ap (λ b. has all r && not b) (ap (λ s. has s r) none_left ∙ has_empty r) ∙ kept (has all r)
      where
        kept : (x : Bool) → (x && true) ≡ x
        kept true = refl
        kept false = refl
