-- The best prefix of a history is feasible and the least, and each shorter one that is feasible costs more.
use Rattle.std.proofs.Common.{◌≡◌, ℕ, ◌<◌, ◌≤◌, ◌⊎◌, inl, inr, ◌&&◌, ◌==◌, Bool, true, false, ltb, List, [], ◌∷◌, ◌++◌}
use Rattle.std.proofs.Common.{length, take, Option, Some, None, if◌then◌else◌, refl, sym, ◌∙◌, subst, append_assoc}
use Rattle.std.proofs.Common.{append-nil, length-append, take_all, arith}
use Rattle.std.proofs.lemmas.List.{take-append-le}
use Rattle.std.proofs.lemmas.Bool.{cases_lt, and_parts, and_cases, eqb-true, eqb-false, ltb-true, ltb-false}
use Rattle.league.specs.League.{LeagueData}
use Rattle.costs.specs.Costs.{total_of}
use Rattle.fixture_board.specs.declared.change.Entry.{Entry}
use Rattle.fixture_board.specs.History.{cost_at, better, best_after, best_prefix, IsBestPrefix, IsBestOf}

abbrev IsFeasible : LeagueData → List Entry → Type 0
IsFeasible league p = (cost_at league p).hard ≡ 0

-- the prefixes of a history with one entry more are those of the history, and the whole
prefix-cases : (h : List Entry) (e : Entry) (k : ℕ) → k ≤ length (h ++ e ∷ []) →
    ((k ≤ length h) × (take k h ≡ take k (h ++ e ∷ []))) ⊎ (h ++ e ∷ [] ≡ take k (h ++ e ∷ []))
prefix-cases h e k within = elim (cases_lt (length h) k) [
  | inl beyond ↦ inr (sym (take_all k (h ++ e ∷ []) (omega (arith, length-append h (e ∷ [])))))
  | inr before ↦ inl (before, sym (take-append-le k h (e ∷ []) before))
]

-- what holds of the feasible prefixes of a history, and of the whole with one entry more where that is feasible,
-- holds of the feasible prefixes with one entry more
each-more : (league : LeagueData) (P : List Entry → Type 0) (h : List Entry) (e : Entry) →
    ((k : ℕ) → k ≤ length h → IsFeasible league (take k h) → P (take k h)) →
    (IsFeasible league (h ++ e ∷ []) → P (h ++ e ∷ [])) →
    (k : ℕ) → k ≤ length (h ++ e ∷ []) → IsFeasible league (take k (h ++ e ∷ [])) → P (take k (h ++ e ∷ []))
each-more league P h e each whole k within =
    let Q : List Entry → Type 0 = λ p. IsFeasible league p → P p in
    elim (prefix-cases h e k within) [
      | inl before ↦ subst Q before.1 (each k before.0)
      | inr all ↦ subst Q all whole
    ]

-- the same of the prefixes that are shorter than the whole
each-shorter : (league : LeagueData) (P : List Entry → Type 0) (h : List Entry) (e : Entry) →
    ((k : ℕ) → k ≤ length h → IsFeasible league (take k h) → P (take k h)) →
    (k : ℕ) → k < length (h ++ e ∷ []) → IsFeasible league (take k (h ++ e ∷ [])) → P (take k (h ++ e ∷ []))
each-shorter league P h e each k under =
    let before : k ≤ length h = omega (arith, length-append h (e ∷ [])) in
    let Q : List Entry → Type 0 = λ p. IsFeasible league p → P p in
    subst Q (sym (take-append-le k h (e ∷ []) before)) (each k before)

-- the whole is feasible, and each feasible prefix of the history costs more
newest : (league : LeagueData) (h : List Entry) (e : Entry) → IsFeasible league (h ++ e ∷ []) →
    ((k : ℕ) → k ≤ length h → IsFeasible league (take k h) →
    total_of (cost_at league (h ++ e ∷ [])) < total_of (cost_at league (take k h))) →
    IsBestPrefix league (h ++ e ∷ []) (h ++ e ∷ [])
newest league h e feasible more =
    let total : ℕ = total_of (cost_at league (h ++ e ∷ [])) in
    record {
      short = omega arith;
      prefix = sym (take_all (length (h ++ e ∷ [])) (h ++ e ∷ []) (omega arith));
      feasible = feasible;
      least = each-more league (λ p. total ≤ total_of (cost_at league p)) h e
          (λ k within free. omega (arith, more k within free)) (λ free. omega arith);
      first = each-shorter league (λ p. total < total_of (cost_at league p)) h e more;
    }

-- the best prefix stays the best where the whole, if it is feasible, does not cost less
stays : (league : LeagueData) (h p : List Entry) (e : Entry) → IsBestPrefix league h p →
    (IsFeasible league (h ++ e ∷ []) → total_of (cost_at league p) ≤ total_of (cost_at league (h ++ e ∷ []))) →
    IsBestPrefix league (h ++ e ∷ []) p
stays league h p e best no_less =
    let shorter : (k : ℕ) → k ≤ length p → take k (h ++ e ∷ []) ≡ take k h =
    λ k within. take-append-le k h (e ∷ []) (omega (arith, best.short)) in
    record {
      short = omega (arith, best.short, length-append h (e ∷ []));
      prefix = best.prefix ∙ sym (shorter (length p) (omega arith));
      feasible = best.feasible;
      least = each-more league (λ x. total_of (cost_at league p) ≤ total_of (cost_at league x)) h e best.least no_less;
      first = λ k under.
          let Q : List Entry → Type 0 =
          λ x. IsFeasible league x → total_of (cost_at league p) < total_of (cost_at league x) in
          subst Q (sym (shorter k (omega arith))) (best.first k under);
    }

-- where none was feasible
best-first : (league : LeagueData) (h : List Entry) (e : Entry) → IsBestOf league h None →
    (free : Bool) → ((cost_at league (h ++ e ∷ [])).hard == 0) ≡ free →
    IsBestOf league (h ++ e ∷ []) (if free then Some (h ++ e ∷ []) else None)
best-first league h e never true is =
    newest league h e (eqb-true (cost_at league (h ++ e ∷ [])).hard 0 is)
    (λ k within free. absurd (never k within free))
best-first league h e never false is =
    each-more league (λ p. ⊥) h e never (eqb-false (cost_at league (h ++ e ∷ [])).hard 0 is)

-- where one was
best-other : (league : LeagueData) (h p : List Entry) (e : Entry) → IsBestPrefix league h p →
    (improves : Bool) →
    ((cost_at league (h ++ e ∷ [])).hard == 0 &&
    ltb (total_of (cost_at league (h ++ e ∷ []))) (total_of (cost_at league p))) ≡ improves →
    IsBestOf league (h ++ e ∷ []) (if improves then Some (h ++ e ∷ []) else Some p)
best-other league h p e best true is =
    let cost = cost_at league (h ++ e ∷ []) in
    let both = and_parts (cost.hard == 0) (ltb (total_of cost) (total_of (cost_at league p))) is in
    newest league h e (eqb-true cost.hard 0 both.0)
    (λ k within free.
    omega (arith, ltb-true (total_of cost) (total_of (cost_at league p)) both.1, best.least k within free))
best-other league h p e best false is =
    let cost = cost_at league (h ++ e ∷ []) in
    stays league h p e best
    (λ free. elim (and_cases (cost.hard == 0) (ltb (total_of cost) (total_of (cost_at league p))) is) [
      | inl broken ↦ absurd (eqb-false cost.hard 0 broken free)
      | inr no_less ↦ ltb-false (total_of cost) (total_of (cost_at league p)) no_less
    ])

better-is_best : (league : LeagueData) (h : List Entry) (e : Entry) (found : Option (List Entry)) → IsBestOf league h found →
    IsBestOf league (h ++ e ∷ []) (better league found (h ++ e ∷ []))
better-is_best league h e None never = best-first league h e never ((cost_at league (h ++ e ∷ [])).hard == 0) refl
better-is_best league h e (Some p) best =
    best-other league h p e best
    ((cost_at league (h ++ e ∷ [])).hard == 0 &&
    ltb (total_of (cost_at league (h ++ e ∷ []))) (total_of (cost_at league p)))
    refl

best_after-is_best : (league : LeagueData) (before h : List Entry) (found : Option (List Entry)) → IsBestOf league before found →
    IsBestOf league (before ++ h) (best_after league before found h)
best_after-is_best league before [] found best =
    subst (λ b. IsBestOf league b found) (sym (append-nil before)) best
best_after-is_best league before (e ∷ h) found best =
    let longer : List Entry = before ++ e ∷ [] in
    subst (λ b. IsBestOf league b (best_after league before found (e ∷ h))) (append_assoc before (e ∷ []) h)
    (best_after-is_best league longer h (better league found longer) (better-is_best league before e found best))

-- the empty history, by whether its schedule is feasible
start-is_best : (league : LeagueData) (free : Bool) → ((cost_at league []).hard == 0) ≡ free →
    IsBestOf league [] (if free then Some [] else None)
start-is_best league true is = record {
  short = omega arith;
  prefix = refl;
  feasible = eqb-true (cost_at league []).hard 0 is;
  least = λ k within free. rw (take_all {A = Entry} k [] (omega arith)) (omega arith);
  first = λ k under free. absurd (omega arith);
}
start-is_best league false is = λ k within free.
    eqb-false (cost_at league []).hard 0 is (subst (IsFeasible league) (take_all {A = Entry} k [] (omega arith)) free)

pub best_prefix-is_best : (league : LeagueData) (h : List Entry) → IsBestOf league h (best_prefix league h)
unfolding best_prefix
best_prefix-is_best league h =
    best_after-is_best league [] h (better league None [])
    (start-is_best league ((cost_at league []).hard == 0) refl)
