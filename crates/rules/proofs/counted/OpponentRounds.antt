-- The rounds in which a team meets some opponents, found opponent by opponent.
use Rattle.std.proofs.Common.{◌≡◌, ◌≢◌, ℕ, ◌<◌, ◌≤◌, ◌&&◌, ◌||◌, ◌==◌, not, nat_lt, Bool, true, false, inl, inr, refl, sym, ◌∙◌, ap, arith}
use Rattle.std.proofs.Math.Bool.{and-true, or-false}
use Rattle.std.proofs.lemmas.Bool.{cases_eq, cases_lt, eq-eqb, ne_eqb, eqb-true, lt-ltb, le-ltb, and_parts}
use Rattle.league.specs.Sets.{has, IsBelow}
use Rattle.league.specs.within.Sets.{IsWithoutLowest}
use Rattle.league.specs.declared.rule.Side.{Side}
use Rattle.league.specs.declared.rule.Side.TheVariants.{Home, Away, Any}
use Rattle.league.proofs.ForCallers.{lowest_gone, others_kept, has_empty}
use Rattle.fixtures.specs.declared.game.Cell.{Cell}
use Rattle.fixtures.specs.Games.{Games, round_count, round_of, cell, is_home, IsPair, IsCell, IsDoubleRoundRobin}
use Rattle.fixtures.proofs.ForCallers.{cell_is, is_cell}
use Rattle.rules.specs.Deviations.{is_on_side, is_counted}

-- a loop over opponents has found the rounds of games with those that aren't left
pub record HasMet (g : Games) (t : ℕ) (side : Side) (set left against : ℕ) : Type 0 where
  pub below : IsBelow g.teams left
  pub within : (k : ℕ) → has left k ≡ true → has set k ≡ true
  pub season : IsBelow (round_count g.teams) against
  pub members : (r : ℕ) → has against r ≡
      (nat_lt r
      (round_count g.teams) && (is_on_side side
      (is_home g t r) && (has set (cell g t r).opponent && not (has left (cell g t r).opponent))))

module _ (g : Games) (rr : IsDoubleRoundRobin g) (t : ℕ) (in_t : t < g.teams) where
  -- in the round of a game a team meets the other, and in no other round on that side
  home_round : (o r : ℕ) → IsPair g.teams t o → r < round_count g.teams →
      (r == round_of g t o) ≡ (is_home g t r && (cell g t r).opponent == o)
  unfolding is_home
  home_round o r pair in_r = elim (cases_eq r (round_of g t o)) [
    | inl here ↦
        let is : cell g t r ≡ record { opponent = o; home = true } =
        cell_is g rr t r (record { opponent = o; home = true }) (record { pair = pair; in_round = sym here }) in
        eq-eqb r (round_of g t o) here ∙ sym (ap (λ (c : Cell). c.home && c.opponent == o) is ∙ eq-eqb o o refl)
    | inr other ↦ ne_eqb r (round_of g t o) other ∙ sym (by_cell (cell g t r) (is_cell g rr t r in_t in_r) other)
  ]
    where
      by_cell : (c : Cell) → IsCell g t r c → r ≢ round_of g t o → (c.home && c.opponent == o) ≡ false
      by_cell c is other = at c.home refl (c.opponent == o) refl
        where
          at : (b : Bool) → c.home ≡ b → (d : Bool) → (c.opponent == o) ≡ d → (b && d) ≡ false
          at false away d same = refl
          at true at_home false same = refl
          at true at_home true same =
              let met : c.opponent ≡ o = eqb-true c.opponent o same in
              absurd (other (sym (rw (at_home, met) at is.in_round)))

  away_round : (o r : ℕ) → IsPair g.teams t o → r < round_count g.teams →
      (r == round_of g o t) ≡ (not (is_home g t r) && (cell g t r).opponent == o)
  unfolding is_home
  away_round o r pair in_r = elim (cases_eq r (round_of g o t)) [
    | inl here ↦
        let is : cell g t r ≡ record { opponent = o; home = false } =
        cell_is g rr t r (record { opponent = o; home = false }) (record { pair = pair; in_round = sym here }) in
        eq-eqb r (round_of g o t) here ∙ sym (ap (λ (c : Cell). not c.home && c.opponent == o) is ∙ eq-eqb o o refl)
    | inr other ↦ ne_eqb r (round_of g o t) other ∙ sym (by_cell (cell g t r) (is_cell g rr t r in_t in_r) other)
  ]
    where
      by_cell : (c : Cell) → IsCell g t r c → r ≢ round_of g o t → (not c.home && c.opponent == o) ≡ false
      by_cell c is other = at c.home refl (c.opponent == o) refl
        where
          at : (b : Bool) → c.home ≡ b → (d : Bool) → (c.opponent == o) ≡ d → (not b && d) ≡ false
          at true at_home d same = refl
          at false away false same = refl
          at false away true same =
              let met : c.opponent ≡ o = eqb-true c.opponent o same in
              absurd (other (sym (rw (away, met) at is.in_round)))

  -- the rounds of the pair on the side
  abbrev pub meets_on : Side → ℕ → ℕ → Bool
  meets_on side o r = nat_lt r (round_count g.teams) && (is_on_side side (is_home g t r) && (cell g t r).opponent == o)

  pub none_with_itself : (side : Side) (o r : ℕ) → t ≡ o → false ≡ meets_on side o r
  none_with_itself side o r same = elim (cases_lt r (round_count g.teams)) [
    | inl in_r ↦
        let apart : (cell g t r).opponent ≢ o = λ is. (is_cell g rr t r in_t in_r).pair.distinct (same ∙ sym is) in
        rw (ne_eqb (cell g t r).opponent o apart) (none (nat_lt r (round_count g.teams)) (is_on_side side (is_home g t r)))
    | inr past ↦ rw (le-ltb r (round_count g.teams) past) refl
  ]
    where
      none : (a b : Bool) → false ≡ (a && (b && false))
      none true true = refl
      none true false = refl
      none false b = refl

  module _ (o : ℕ) (pair : IsPair g.teams t o) where
    -- a round beyond the season isn't that of the game
    not_past : (h a r : ℕ) → IsPair g.teams h a → round_count g.teams ≤ r → (r == round_of g h a) ≡ false
    not_past h a r is past = ne_eqb r (round_of g h a) (λ same. absurd (omega (arith, rr.in_range h a is)))

    swapped : IsPair g.teams o t
    swapped = record { home_in = pair.away_in; away_in = pair.home_in; distinct = λ same. pair.distinct (sym same) }

    pub met_home : (r : ℕ) → (r == round_of g t o || false) ≡ meets_on Home o r
    met_home r = elim (cases_lt r (round_count g.teams)) [
      | inl in_r ↦ rw (home_round o r pair in_r, lt-ltb r (round_count g.teams) in_r)
          (or-false (is_home g t r && (cell g t r).opponent == o))
      | inr past ↦ rw (not_past t o r pair past, le-ltb r (round_count g.teams) past) refl
    ]

    pub met_away : (r : ℕ) → (r == round_of g o t || false) ≡ meets_on Away o r
    met_away r = elim (cases_lt r (round_count g.teams)) [
      | inl in_r ↦ rw (away_round o r pair in_r, lt-ltb r (round_count g.teams) in_r)
          (or-false (not (is_home g t r) && (cell g t r).opponent == o))
      | inr past ↦ rw (not_past o t r swapped past, le-ltb r (round_count g.teams) past) refl
    ]

    pub met_any : (r : ℕ) → ((r == round_of g t o || false) || (r == round_of g o t || false)) ≡ meets_on Any o r
    met_any r = elim (cases_lt r (round_count g.teams)) [
      | inl in_r ↦
          rw (home_round o r pair in_r, away_round o r pair in_r, lt-ltb r (round_count g.teams) in_r)
          (same (is_home g t r) ((cell g t r).opponent == o))
      | inr past ↦ rw (not_past t o r pair past, not_past o t r swapped past, le-ltb r (round_count g.teams) past) refl
    ]
      where
        same : (a b : Bool) → (((a && b) || false) || ((not a && b) || false)) ≡ b
        same true true = refl
        same true false = refl
        same false true = refl
        same false false = refl

  pub met_none : (side : Side) (set left against : ℕ) → IsBelow g.teams left → left ≡ set → IsBelow (round_count g.teams) against →
      ((r : ℕ) → has against r ≡ false) → HasMet g t side set left against
  met_none side set left against below whole season empty = record {
    below = below;
    within = λ k is. sym (ap (λ s. has s k) whole) ∙ is;
    season = season;
    members = λ r.
        empty r ∙ none (nat_lt r (round_count g.teams)) (is_on_side side (is_home g t r)) (has set (cell g t r).opponent) ∙
        ap (λ s. nat_lt r
        (round_count g.teams) && (is_on_side side
        (is_home g t r) && (has set (cell g t r).opponent && not (has s (cell g t r).opponent)))) (sym whole);
  }
    where
      none : (a b c : Bool) → false ≡ (a && (b && (c && not c)))
      none true true true = refl
      none true true false = refl
      none true false c = refl
      none false b c = refl

  pub met_more : (side : Side) (set left lowest rest against met new : ℕ) → HasMet g t side set left against →
      IsWithoutLowest left lowest rest →
      ((r : ℕ) → has met r ≡ meets_on side lowest r) → ((r : ℕ) → has new r ≡ (has against r || has met r)) →
      IsBelow (round_count g.teams) new → HasMet g t side set rest new
  met_more side set left lowest rest against met new so_far taken mets members season = record {
    below = omega (arith, so_far.below, taken.fewer);
    within = λ k is. so_far.within k (and_parts (has left k) (not (k == lowest)) (sym (taken.others k) ∙ is)).0;
    season = season;
    members = λ r. members r ∙
        rw (so_far.members r, mets r) (joined (nat_lt r (round_count g.teams)) (is_on_side side (is_home g t r)) (cell g t r).opponent);
  }
    where
      taken_in : (a b : Bool) → ((a && (b && (true && not true))) || (a && (b && true))) ≡ (a && (b && (true && not false)))
      taken_in true true = refl
      taken_in true false = refl
      taken_in false b = refl

      as_before : (a b c : Bool) → ((a && (b && c)) || (a && (b && false))) ≡ (a && (b && c))
      as_before true true true = refl
      as_before true true false = refl
      as_before true false c = refl
      as_before false b c = refl

      joined : (a b : Bool) (o : ℕ) →
          ((a && (b && (has set o && not (has left o)))) || (a && (b && o == lowest))) ≡ (a && (b && (has set o && not (has rest o))))
      joined a b o = elim (cases_eq o lowest) [
        | inl here ↦
            rw (here, eq-eqb lowest lowest refl, so_far.within lowest taken.in_set, taken.in_set, lowest_gone left lowest rest taken)
            (taken_in a b)
        | inr other ↦ rw (ne_eqb o lowest other, others_kept left lowest rest o taken other) (as_before a b (has set o && not (has left o)))
      ]

  pub met_all : (side : Side) (set left against : ℕ) → HasMet g t side set left against → left ≡ 0 → (r : ℕ) →
      has against r ≡ (nat_lt r (round_count g.teams) && is_counted g side (has set) t r)
  unfolding is_counted is_home
  met_all side set left against so_far none_left r =
      so_far.members r ∙
      ap (λ b. nat_lt r (round_count g.teams) && (is_on_side side (cell g t r).home && (has set (cell g t r).opponent && not b)))
      (ap (λ s. has s (cell g t r).opponent) none_left ∙ has_empty (cell g t r).opponent) ∙
      ap (λ b. nat_lt r (round_count g.teams) && (is_on_side side (cell g t r).home && b)) (and-true (has set (cell g t r).opponent))

  -- in the slots, against those of all teams that are opponents
  pub met_in_slots : (side : Side) (all opponents both : ℕ) → ((k : ℕ) → has all k ≡ nat_lt k g.teams) →
      ((k : ℕ) → has both k ≡ (has all k && has opponents k)) →
      (r : ℕ) (slot : Bool) → ((nat_lt r (round_count g.teams) && is_counted g side (has both) t r) && slot) ≡
      (nat_lt r (round_count g.teams) && (slot && is_counted g side (has opponents) t r))
  unfolding is_counted
  met_in_slots side all opponents both is_all members r slot = elim (cases_lt r (round_count g.teams)) [
    | inl in_r ↦
        rw (
          members (cell g t r).opponent,
          is_all (cell g t r).opponent,
          lt-ltb (cell g t r).opponent g.teams
              (is_cell g rr t r in_t in_r).pair.away_in,
        )
        (regrouped (nat_lt r (round_count g.teams)) (is_on_side side (cell g t r).home && has opponents (cell g t r).opponent) slot)
    | inr past ↦ rw (le-ltb r (round_count g.teams) past) refl
  ]
    where
      regrouped : (a b c : Bool) → ((a && b) && c) ≡ (a && (c && b))
      regrouped true true true = refl
      regrouped true true false = refl
      regrouped true false true = refl
      regrouped true false false = refl
      regrouped false b c = refl
