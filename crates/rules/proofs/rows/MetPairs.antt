-- Pairs that meet in some rounds: which they are, and their sums, counted at the main teams.
use Rattle.std.proofs.Common.{◌≡◌, ◌≢◌, ℕ, zero, suc, ◌+◌, ◌<◌, ◌&&◌, ◌||◌, ◌==◌, not, Bool, true, false, if◌then◌else◌}
use Rattle.std.proofs.Common.{nat_lt, inl, inr, refl, sym, subst, ◌∙◌, ap, ap₂, arith}
use Rattle.std.proofs.lemmas.Bool.{eqb-true, and_left}
use Rattle.std.proofs.Math.Bool.{or_assoc, or_comm, and_comm, and-true, and-false, or-false, and_self}
use Rattle.std.proofs.Math.Nat.{add-zero, max_comm, min_comm}
use Rattle.std.proofs.lemmas.Bool.{cases_Bool, cases_eq, eq-eqb, ne_eqb, lt-ltb, le-ltb, and_cases, and_right, or_from, or_parts}
use Rattle.std.proofs.lemmas.Bool.{cond-false, false≢true}
use Rattle.league.specs.Sets.{has, IsBelow}
use Rattle.league.specs.within.Sets.{IsWithoutLowest}
use Rattle.league.specs.Sums.{sum_below, sum_where, sum_of_pairs}
use Rattle.league.proofs.ForCallers.{sum_below_add, sum_below_same, sum_below_zero, sum_of_pairs_same, sum_of_pairs_balance}
use Rattle.league.proofs.ForCallers.{sum_where_same, others_kept, has_empty, IsSumWithout, sum_without_more}
use Rattle.fixtures.specs.Games.{Games, round_count, round_of, cell, IsPair, IsDoubleRoundRobin}
use Rattle.fixtures.specs.Changes.{DiffersOnlyAround}
use Rattle.fixtures.specs.declared.game.Cell.{Cell}
use Rattle.fixtures.proofs.ForCallers.{cell_home, cell_is, pair_swapped, round_of_kept, round_of_kept_around}
use Rattle.rules.specs.Deviations.{over, rounds_between, short_pairs}
use Rattle.rules.specs.Parts.{is_pair_with, meet_in}
use Rattle.rules.specs.within.Walked.{counts_pair}
use Rattle.rules.proofs.counted.OpponentRounds.{met_any}
use Rattle.rules.proofs.balances.PartSums.{whole_balance}
use Rattle.rules.proofs.walks.Left.{IsLeft, gone, gone_none, gone_all, gone_before, gone_now, gone_same, left_whole, left_fewer}

-- a change around main teams in some rounds
module _ (g g' : Games) (rr : IsDoubleRoundRobin g) (rr' : IsDoubleRoundRobin g') (main rounds : ℕ)
    (differs : DiffersOnlyAround g g' (has main) (has rounds)) where
  -- a game outside the rounds stays
  kept_outside : (h a : ℕ) → IsPair g.teams h a → has rounds (round_of g h a) ≡ false → round_of g' h a ≡ round_of g h a
  kept_outside h a pair outside =
      round_of_kept g g' rr rr' differs.same_size h a pair
      (differs.same_cells h (round_of g h a) pair.home_in (rr.in_range h a pair) outside)

  came_from_outside : (h a : ℕ) → IsPair g.teams h a → has rounds (round_of g' h a) ≡ false → round_of g h a ≡ round_of g' h a
  came_from_outside h a pair outside =
      let pair' : IsPair g'.teams h a = rw differs.same_size pair in
      let in_r : round_of g' h a < round_count g.teams = rw differs.same_size at (rr'.in_range h a pair') in
      round_of_kept g' g rr' rr (sym differs.same_size) h a pair'
      (sym (differs.same_cells h (round_of g' h a) pair.home_in in_r outside))

  -- a game in the rounds is in them before and after
  game_in_same : (h a : ℕ) → IsPair g.teams h a → has rounds (round_of g' h a) ≡ has rounds (round_of g h a)
  game_in_same h a pair = elim (cases_Bool (has rounds (round_of g h a))) [
    | inl inside ↦ elim (cases_Bool (has rounds (round_of g' h a))) [
      | inl inside' ↦ inside' ∙ sym inside
      | inr outside' ↦ sym (ap (has rounds) (came_from_outside h a pair outside'))
    ]
    | inr outside ↦ ap (has rounds) (kept_outside h a pair outside)
  ]

  rounds_between_kept : (i j : ℕ) → IsPair g.teams i j → ((has main i || has main j) && meet_in g (has rounds) i j) ≡ false →
      rounds_between g' i j ≡ rounds_between g i j
  unfolding meet_in rounds_between
  rounds_between_kept i j pair out = elim (and_cases (has main i || has main j) _ out) [
    | inl others ↦
        let parts = or_parts (has main i) (has main j) others in
        rw (around i j pair parts.0 parts.1, around j i (pair_swapped _ _ _ pair) parts.1 parts.0) refl
    | inr apart ↦
        let parts = or_parts (has rounds (round_of g i j)) (has rounds (round_of g j i)) apart in
        rw (kept_outside i j pair parts.0, kept_outside j i (pair_swapped _ _ _ pair) parts.1) refl
  ]
    where
      around : (h a : ℕ) → IsPair g.teams h a → has main h ≡ false → has main a ≡ false → round_of g' h a ≡ round_of g h a
      around = round_of_kept_around g g' (has main) (has rounds) rr rr' differs

  pub short_pairs_balance : (teams least : ℕ) →
      sum_below g'.teams (short_pairs g' (has teams) least) +
      sum_of_pairs g.teams (λ i j.
      if is_pair_with teams main i j && meet_in g (has rounds) i j then over least (rounds_between g i j) else 0) ≡
      sum_below g.teams (short_pairs g (has teams) least) +
      sum_of_pairs g'.teams (λ i j.
      if is_pair_with teams main i j && meet_in g' (has rounds) i j then over least (rounds_between g' i j) else 0)
  unfolding short_pairs meet_in rounds_between
  short_pairs_balance teams least =
      rw differs.same_size
      (sum_of_pairs_balance g.teams _ _ _ _
      (λ i j lower in_j.
      let pair : IsPair g.teams i j = record { home_in = omega arith; away_in = in_j; distinct = omega arith } in
      at (has teams i && has teams j) (has main i || has main j) (meet_in g (has rounds) i j) (meet_in g' (has rounds) i j) _ _
      (rw (game_in_same i j pair, game_in_same j i (pair_swapped _ _ _ pair)) refl)
      (λ out. ap (over least) (rounds_between_kept i j pair out))))
    where
      at : (both one meet meet' : Bool) (new old : ℕ) → meet' ≡ meet → ((one && meet) ≡ false → new ≡ old) →
          (if both then new else 0) + (if (both && one) && meet then old else 0) ≡
          (if both then old else 0) + (if (both && one) && meet' then new else 0)
      at true true meet meet' new old same stays = whole_balance meet meet' new old same stays
      at true false meet meet' new old same stays = ap (λ n. n + 0) (stays refl)
      at false one meet meet' new old same stays = refl

-- a loop over rounds has found the opponents but for those in the rounds that are left
pub record HasMetIn (g : Games) (team rounds left met : ℕ) : Type 0 where
  pub below : IsBelow (round_count g.teams) left
  pub in_teams : IsBelow g.teams met
  pub members : (t : ℕ) → IsPair g.teams t team → (has met t || meet_in g (has left) t team) ≡ meet_in g (has rounds) t team

pub met_in_none : (g : Games) (rr : IsDoubleRoundRobin g) (team rounds left met : ℕ) → IsBelow (round_count g.teams) left →
    ((r : ℕ) → r < round_count g.teams → has left r ≡ has rounds r) → IsBelow g.teams met → ((t : ℕ) → has met t ≡ false) →
    HasMetIn g team rounds left met
unfolding meet_in
met_in_none g rr team rounds left met below in_season in_teams empty = record {
  below = below;
  in_teams = in_teams;
  members = λ t pair.
      rw (
        empty t,
        in_season (round_of g t team) (rr.in_range t team pair),
        in_season (round_of g team t) (rr.in_range team t (pair_swapped _ _ _ pair)),
      )
      refl;
}

-- the team's opponent in a round is the one with which a game has that round
pub meets_then : (g : Games) (rr : IsDoubleRoundRobin g) (team lowest t : ℕ) → team < g.teams → lowest < round_count g.teams →
    IsPair g.teams t team →
    (t == (cell g team lowest).opponent) ≡ (lowest == round_of g team t || lowest == round_of g t team)
meets_then g rr team lowest t in_team in_r pair =
    swapped t (cell g team lowest).opponent ∙
    ap (λ b. b && (cell g team lowest).opponent == t) (sym (lt-ltb lowest (round_count g.teams) in_r)) ∙
    sym (met_any g rr team in_team t (pair_swapped _ _ _ pair) lowest) ∙
    rw (or-false (lowest == round_of g team t), or-false (lowest == round_of g t team)) refl
  where
    swapped : (a b : ℕ) → (a == b) ≡ (b == a)
    swapped a b = elim (cases_eq a b) [
      | inl same ↦ rw same refl
      | inr other ↦ ne_eqb a b other ∙ sym (ne_eqb b a (λ same. other (sym same)))
    ]

pub met_in_more : (g : Games) (rr : IsDoubleRoundRobin g) (team rounds left lowest rest met new : ℕ) → team < g.teams →
    lowest < round_count g.teams → HasMetIn g team rounds left met → IsWithoutLowest left lowest rest → IsBelow g.teams new →
    ((t : ℕ) → has new t ≡ (t == (cell g team lowest).opponent || has met t)) → HasMetIn g team rounds rest new
unfolding meet_in
met_in_more g rr team rounds left lowest rest met new in_team in_r so_far taken in_teams members = record {
  below = omega (arith, so_far.below, taken.fewer);
  in_teams = in_teams;
  members = λ t pair.
      ap (λ b. b || (has rest (round_of g t team) || has rest (round_of g team t)))
      (members t ∙ ap (λ b. b || has met t) (meets_then g rr team lowest t in_team in_r pair)) ∙
      ap (λ b. b || (has rest (round_of g t team) || has rest (round_of g team t))) (or_comm _ (has met t)) ∙
      or_assoc (has met t) _ _ ∙
      ap (λ b. has met t || b)
      (regrouped (lowest == round_of g t team) (lowest == round_of g team t) (has rest (round_of g t team))
      (has rest (round_of g team t))) ∙
      rw (sym (was_left (round_of g t team)), sym (was_left (round_of g team t))) (so_far.members t pair);
}
  where
    was_left : (r : ℕ) → has left r ≡ (lowest == r || has rest r)
    was_left r = elim (cases_eq r lowest) [
      | inl same ↦ rw (same, eq-eqb lowest lowest refl, taken.in_set) refl
      | inr other ↦ rw (ne_eqb lowest r (λ same. other (sym same)), others_kept left lowest rest r taken other) refl
    ]

    regrouped : (x y a b : Bool) → ((y || x) || (a || b)) ≡ ((x || a) || (y || b))
    regrouped true true a b = refl
    regrouped true false a b = refl
    regrouped false true true b = refl
    regrouped false true false b = refl
    regrouped false false a b = refl

pub met_in_all : (g : Games) (team rounds left met : ℕ) → HasMetIn g team rounds left met → left ≡ 0 → (t : ℕ) →
    IsPair g.teams t team → has met t ≡ meet_in g (has rounds) t team
unfolding meet_in
met_in_all g team rounds left met so_far none_left t pair =
    sym (or-false (has met t)) ∙ ap (λ b. has met t || b) (sym (or_from _ _ (none (round_of g t team)) (none (round_of g team t)))) ∙
    so_far.members t pair
  where
    none : (r : ℕ) → has left r ≡ false
    none r = ap (λ s. has s r) none_left ∙ has_empty r

-- a main team doesn't count a pair with itself
not_alone : (main team : ℕ) → counts_pair main team team ≡ false
not_alone main team = rw (le-ltb team team (omega arith)) refl

pub counted_distinct : (main team other : ℕ) → counts_pair main team other ≡ true → other ≢ team
counted_distinct main team other counts same =
    false≢true (sym (not_alone main team) ∙ ap (counts_pair main team) (sym same) ∙ counts)

pub counted_same : (g : Games) (main team : ℕ) (some others : ℕ → Bool) → team < g.teams →
    ((t : ℕ) → IsPair g.teams t team → some t ≡ others t) → (t : ℕ) → t < g.teams →
    (some t && counts_pair main team t) ≡ (others t && counts_pair main team t)
counted_same g main team some others in_team same t in_t = elim (cases_eq t team) [
  | inl itself ↦ rw (itself, not_alone main team) (and-false (some team) ∙ sym (and-false (others team)))
  | inr other ↦ ap (λ b. b && counts_pair main team t) (same t (record { home_in = in_t; away_in = in_team; distinct = other }))
]

-- a term of 0
pub sum_without_same : (n set left lowest rest total most : ℕ) (f : ℕ → ℕ) → IsSumWithout n set left total most f →
    IsWithoutLowest left lowest rest → f lowest ≡ 0 → IsSumWithout n set rest total most f
sum_without_same n set left lowest rest total most f so_far taken none =
    subst (λ (sum : ℕ). IsSumWithout n set rest sum most f) (add-zero total)
    (sum_without_more n set left lowest rest total 0 most f so_far taken (sym none) (omega arith))

-- a sum over all ordered pairs
both_orders : (n : ℕ) (h : ℕ → ℕ → ℕ) → ((k : ℕ) → h k k ≡ 0) →
    sum_below n (λ m. sum_below n (h m)) ≡ sum_of_pairs n (λ i j. h i j + h j i)
unfolding sum_below
both_orders zero h none = refl
both_orders (suc n) h none =
    omega (
      arith,
      sum_below_add n (λ m. sum_below n (h m)) (λ m. h m n),
      sum_below_add n (λ i. h i n) (h n),
      both_orders n h none,
      none n,
    )

-- what a main team counts of its pair with another
abbrev counted : ℕ → ℕ → (ℕ → ℕ → Bool) → (ℕ → ℕ → ℕ) → ℕ → ℕ → ℕ
counted teams main test f m p = if (has teams m && has main m) && ((has teams p && test p m) && counts_pair main m p) then f p m else 0

-- the pairs with a main team that pass a test, counted at the main teams
pub pairs_at_main : (n teams main : ℕ) (test : ℕ → ℕ → Bool) (f : ℕ → ℕ → ℕ) → ((i j : ℕ) → test j i ≡ test i j) →
    ((i j : ℕ) → f j i ≡ f i j) →
    sum_where n (λ m. has teams m && has main m)
    (λ m. sum_where n (λ p. (has teams p && test p m) && counts_pair main m p) (λ p. f p m)) ≡
    sum_of_pairs n (λ i j. if is_pair_with teams main i j && test i j then f i j else 0)
pairs_at_main n teams main test f same_test same_term =
    sum_below_same n _ (λ m. sum_below n (counted teams main test f m)) (λ m below. inside (has teams m && has main m) m) ∙
    both_orders n (counted teams main test f)
    (λ k. cond-false {A = ℕ} _ (f k k) 0 (and_right _ _ (and_right _ _ (not_alone main k)))) ∙
    sum_of_pairs_same n _ _ (λ i j lower below. once i j lower)
  where
    inside : (b : Bool) (m : ℕ) →
        (if b then sum_where n (λ p. (has teams p && test p m) && counts_pair main m p) (λ p. f p m) else 0) ≡
        sum_below n (λ p. if b && ((has teams p && test p m) && counts_pair main m p) then f p m else 0)
    inside true m = refl
    inside false m = sym (sum_below_zero n _ (λ p below. refl))

    once : (i j : ℕ) → i < j → counted teams main test f i j + counted teams main test f j i ≡
        (if is_pair_with teams main i j && test i j then f i j else 0)
    once i j lower =
        rw (same_test i j, same_term i j, le-ltb j i (omega arith), lt-ltb i j lower)
        (at (has teams i) (has teams j) (has main i) (has main j) (test i j) (f i j))
      where
        at : (a b m l e : Bool) (x : ℕ) →
            (if (a && m) && ((b && e) && (false || (true && not l))) then x else 0) +
            (if (b && l) && ((a && e) && (true || (false && not m))) then x else 0) ≡
            (if ((a && b) && (m || l)) && e then x else 0)
        at true true true true true x = omega arith
        at true true true true false x = refl
        at true true true false true x = omega arith
        at true true true false false x = refl
        at true true false true true x = omega arith
        at true true false true false x = refl
        at true true false false e x = refl
        at true false true l e x = refl
        at true false false l e x = refl
        at false true m true e x = refl
        at false true m false e x = refl
        at false false m l e x = refl

-- all pairs of a rule's teams, counted in the same way
pub pairs_at_all : (n teams : ℕ) (f : ℕ → ℕ → ℕ) → ((i j : ℕ) → f j i ≡ f i j) →
    sum_where n (has teams) (λ m. sum_where n (λ p. has teams p && counts_pair teams m p) (λ p. f p m)) ≡
    sum_of_pairs n (λ i j. if has teams i && has teams j then f i j else 0)
pairs_at_all n teams f same_term =
    sum_where_same n (has teams) (λ m. has teams m && has teams m) _ _ (λ m below. sym (and_self (has teams m)))
    (λ m below is. sum_where_same n _ _ _ _
    (λ p p_below. ap (λ b. b && counts_pair teams m p) (sym (and-true (has teams p)))) (λ p p_below is. refl)) ∙
    pairs_at_main n teams teams (λ _ _. true) f (λ i j. refl) same_term ∙
    sum_of_pairs_same n _ _ (λ i j lower below. ap (λ b. if b then f i j else 0) (at (has teams i) (has teams j)))
  where
    at : (a b : Bool) → (((a && b) && (a || b)) && true) ≡ (a && b)
    at true true = refl
    at true false = refl
    at false b = refl

-- the two games of a pair, whichever team is named first

pub meet_in_swapped : (g : Games) (rounds : ℕ → Bool) (i j : ℕ) → meet_in g rounds j i ≡ meet_in g rounds i j
unfolding meet_in
meet_in_swapped g rounds i j = or_comm (rounds (round_of g j i)) (rounds (round_of g i j))

pub rounds_between_swapped : (g : Games) (i j : ℕ) → rounds_between g j i ≡ rounds_between g i j
unfolding rounds_between
rounds_between_swapped g i j = rw (max_comm (round_of g j i) (round_of g i j), min_comm (round_of g j i) (round_of g i j)) refl

-- in a loop over rounds some teams are met in one of those that aren't left, and some in two
pub record HasMetTwice (g : Games) (team rounds left once twice : ℕ) : Type 0 where
  pub some : IsLeft (round_count g.teams) rounds left
  pub in_one : (t : ℕ) → IsPair g.teams t team → has once t ≡ (gone rounds left (round_of g t team) || gone rounds left (round_of g team t))
  pub in_both : (t : ℕ) → IsPair g.teams t team → has twice t ≡ (gone rounds left (round_of g t team) && gone rounds left (round_of g team t))

pub met_twice_none : (g : Games) (team rounds left once twice : ℕ) → IsBelow (round_count g.teams) rounds → left ≡ rounds →
    ((t : ℕ) → has once t ≡ false) → ((t : ℕ) → has twice t ≡ false) → HasMetTwice g team rounds left once twice
met_twice_none g team rounds left once twice below same no_once no_twice = record {
  some = left_whole (round_count g.teams) rounds left below same;
  in_one = λ t pair. no_once t ∙ sym (or_from _ _ (gone_none rounds left (round_of g t team) same) (gone_none rounds left (round_of g team t) same));
  in_both = λ t pair. no_twice t ∙ sym (and_left _ _ (gone_none rounds left (round_of g t team) same));
}

-- the two games of a pair have different rounds
rounds_apart : (g : Games) (rr : IsDoubleRoundRobin g) (t team : ℕ) → IsPair g.teams t team → round_of g t team ≢ round_of g team t
rounds_apart g rr t team pair same =
    false≢true
    (sym (ap (λ (c : Cell). c.home) (cell_is g rr team (round_of g t team) (record { opponent = t; home = false })
    (record { pair = pair_swapped _ _ _ pair; in_round = refl }))) ∙ ap (λ r. (cell g team r).home) same ∙
    ap (λ (c : Cell). c.home) (cell_home g rr team t (pair_swapped _ _ _ pair)))

met_twice_more : (g : Games) (rr : IsDoubleRoundRobin g) (team rounds left lowest rest once twice more again : ℕ) → team < g.teams →
    lowest < round_count g.teams → HasMetTwice g team rounds left once twice → IsWithoutLowest left lowest rest →
    ((t : ℕ) → has more t ≡ ((t == (cell g team lowest).opponent && not (has once (cell g team lowest).opponent)) || has once t)) →
    ((t : ℕ) → has again t ≡ ((t == (cell g team lowest).opponent && has once (cell g team lowest).opponent) || has twice t)) →
    HasMetTwice g team rounds rest more again
met_twice_more g rr team rounds left lowest rest once twice more again in_team in_r so_far taken adds adds_again = record {
  some = left_fewer _ _ _ _ _ so_far.some taken;
  in_one = λ t pair. (step t pair).0;
  in_both = λ t pair. (step t pair).1;
}
  where
    opponent : ℕ
    opponent = (cell g team lowest).opponent

    before : ℕ → Bool
    before k = gone rounds left k

    now : ℕ → Bool
    now k = gone rounds rest k

    stays : (k : ℕ) → k ≢ lowest → now k ≡ before k
    stays = gone_same _ rounds left lowest rest so_far.some taken

    was : (k : ℕ) → k ≡ lowest → before k ≡ false
    was k same = ap before same ∙ gone_before _ rounds left lowest rest so_far.some taken

    is : (k : ℕ) → k ≡ lowest → now k ≡ true
    is k same = ap now same ∙ gone_now _ rounds left lowest rest so_far.some taken

    -- what is told of one of the team's two games with its opponent
    told : (a b a' b' o w : Bool) → a ≡ false → a' ≡ true → b' ≡ b → o ≡ (a || b) → w ≡ (a && b) →
        ((not o || o) ≡ (a' || b')) × ((o || w) ≡ (a' && b'))
    told a true a' b' o w was_out is_in kept once_is twice_is = rw (once_is, twice_is, was_out, is_in, kept) (refl, refl)
    told a false a' b' o w was_out is_in kept once_is twice_is = rw (once_is, twice_is, was_out, is_in, kept) (refl, refl)

    step : (t : ℕ) → IsPair g.teams t team →
        (has more t ≡ (now (round_of g t team) || now (round_of g team t))) ×
        (has again t ≡ (now (round_of g t team) && now (round_of g team t)))
    step t pair = elim (cases_eq t opponent) [
      | inr apart ↦
          let none = or_parts (lowest == round_of g team t) (lowest == round_of g t team)
          (sym (meets_then g rr team lowest t in_team in_r pair) ∙ ne_eqb t opponent apart) in
          let there : now (round_of g t team) ≡ before (round_of g t team) =
          stays (round_of g t team) (λ same. false≢true (sym none.1 ∙ eq-eqb lowest (round_of g t team) (sym same))) in
          let back : now (round_of g team t) ≡ before (round_of g team t) =
          stays (round_of g team t) (λ same. false≢true (sym none.0 ∙ eq-eqb lowest (round_of g team t) (sym same))) in (
            adds t ∙ ap (λ b. (b && not (has once opponent)) || has once t) (ne_eqb t opponent apart) ∙ so_far.in_one t pair ∙
                sym (ap₂ (λ a b. a || b) there back),
            adds_again t ∙ ap (λ b. (b && has once opponent) || has twice t) (ne_eqb t opponent apart) ∙ so_far.in_both t pair ∙
                sym (ap₂ (λ a b. a && b) there back),
          )
      | inl same ↦
          let one : (lowest == round_of g team t || lowest == round_of g t team) ≡ true =
          sym (meets_then g rr team lowest t in_team in_r pair) ∙ eq-eqb t opponent same in
          let both = elim (cases_eq lowest (round_of g team t)) as (λ _. ((not (has once t) || has once t) ≡
          (now (round_of g t team) || now (round_of g team t))) × ((has once t || has twice t) ≡ (now (round_of g t team) && now (round_of g team t)))) [
            | inl home ↦
                let pair_told = told (before (round_of g team t)) (before (round_of g t team)) (now (round_of g team t)) (now (round_of g t team))
                (has once t) (has twice t) (was (round_of g team t) (sym home)) (is (round_of g team t) (sym home))
                (stays (round_of g t team) (λ other. rounds_apart g rr t team pair (other ∙ home)))
                (so_far.in_one t pair ∙ or_comm (before (round_of g t team)) (before (round_of g team t)))
                (so_far.in_both t pair ∙ and_comm (before (round_of g t team)) (before (round_of g team t))) in (
                  pair_told.0 ∙ or_comm (now (round_of g team t)) (now (round_of g t team)),
                  pair_told.1 ∙ and_comm (now (round_of g team t)) (now (round_of g t team)),
                )
            | inr not_home ↦
                let away : lowest ≡ round_of g t team =
                eqb-true lowest (round_of g t team)
                (ap (λ b. b || lowest == round_of g t team) (sym (ne_eqb lowest (round_of g team t) not_home)) ∙ one) in
                told (before (round_of g t team)) (before (round_of g team t)) (now (round_of g t team)) (now (round_of g team t))
                (has once t) (has twice t) (was (round_of g t team) (sym away)) (is (round_of g t team) (sym away))
                (stays (round_of g team t) (λ other. not_home (sym other)))
                (so_far.in_one t pair) (so_far.in_both t pair)
          ] in (
            adds t ∙ ap₂ (λ a k. (a && not (has once k)) || has once t) (eq-eqb t opponent same) (sym same) ∙ both.0,
            adds_again t ∙ ap₂ (λ a k. (a && has once k) || has twice t) (eq-eqb t opponent same) (sym same) ∙ both.1,
          )
    ]

pub met_again : (g : Games) (rr : IsDoubleRoundRobin g) (team rounds left lowest rest once twice again : ℕ) → team < g.teams →
    lowest < round_count g.teams → HasMetTwice g team rounds left once twice → IsWithoutLowest left lowest rest →
    has once (cell g team lowest).opponent ≡ true → ((t : ℕ) → has again t ≡ (t == (cell g team lowest).opponent || has twice t)) →
    HasMetTwice g team rounds rest once again
met_again g rr team rounds left lowest rest once twice again in_team in_r so_far taken met adds =
    met_twice_more g rr team rounds left lowest rest once twice once again in_team in_r so_far taken
    (λ t. sym (ap (λ b. (t == (cell g team lowest).opponent && not b) || has once t) met ∙
    ap (λ b. b || has once t) (and-false (t == (cell g team lowest).opponent))))
    (λ t. adds t ∙ sym (ap (λ b. (t == (cell g team lowest).opponent && b) || has twice t) met ∙
    ap (λ b. b || has twice t) (and-true (t == (cell g team lowest).opponent))))

pub met_first : (g : Games) (rr : IsDoubleRoundRobin g) (team rounds left lowest rest once twice more : ℕ) → team < g.teams →
    lowest < round_count g.teams → HasMetTwice g team rounds left once twice → IsWithoutLowest left lowest rest →
    has once (cell g team lowest).opponent ≡ false → ((t : ℕ) → has more t ≡ (t == (cell g team lowest).opponent || has once t)) →
    HasMetTwice g team rounds rest more twice
met_first g rr team rounds left lowest rest once twice more in_team in_r so_far taken unmet adds =
    met_twice_more g rr team rounds left lowest rest once twice more twice in_team in_r so_far taken
    (λ t. adds t ∙ sym (ap (λ b. (t == (cell g team lowest).opponent && not b) || has once t) unmet ∙
    ap (λ b. b || has once t) (and-true (t == (cell g team lowest).opponent))))
    (λ t. sym (ap (λ b. (t == (cell g team lowest).opponent && b) || has twice t) unmet ∙
    ap (λ b. b || has twice t) (and-false (t == (cell g team lowest).opponent))))

pub met_twice_all : (g : Games) (team rounds left once twice : ℕ) → left ≡ 0 → HasMetTwice g team rounds left once twice → (t : ℕ) →
    IsPair g.teams t team → has twice t ≡ (has rounds (round_of g t team) && has rounds (round_of g team t))
met_twice_all g team rounds left once twice none so_far t pair =
    so_far.in_both t pair ∙ ap₂ (λ a b. a && b) (gone_all rounds left (round_of g t team) none) (gone_all rounds left (round_of g team t) none)

-- rounds past the season don't matter
pub met_same : (g : Games) (rr : IsDoubleRoundRobin g) (team rounds whole inside : ℕ) →
    ((r : ℕ) → has whole r ≡ nat_lt r (round_count g.teams)) → ((r : ℕ) → has inside r ≡ (has whole r && has rounds r)) → (t : ℕ) →
    IsPair g.teams t team → meet_in g (has inside) t team ≡ meet_in g (has rounds) t team
unfolding meet_in
met_same g rr team rounds whole inside wholes insides t pair =
    ap₂ (λ a b. a || b) (same (round_of g t team) (rr.in_range t team pair))
    (same (round_of g team t) (rr.in_range team t (pair_swapped _ _ _ pair)))
  where
    same : (r : ℕ) → r < round_count g.teams → has inside r ≡ has rounds r
    same r in_r = insides r ∙ ap (λ b. b && has rounds r) (wholes r ∙ lt-ltb r (round_count g.teams) in_r)

-- a team is met in one of the rounds if not both games are in the others
pub met_unless_twice : (g : Games) (rr : IsDoubleRoundRobin g) (team rounds whole outside all twice met : ℕ) →
    ((r : ℕ) → has whole r ≡ nat_lt r (round_count g.teams)) → ((r : ℕ) → has outside r ≡ (has whole r && not (has rounds r))) →
    ((t : ℕ) → has all t ≡ nat_lt t g.teams) → ((t : ℕ) → has met t ≡ (has all t && not (has twice t))) → (t : ℕ) → IsPair g.teams t team →
    has twice t ≡ (has outside (round_of g t team) && has outside (round_of g team t)) → has met t ≡ meet_in g (has rounds) t team
unfolding meet_in
met_unless_twice g rr team rounds whole outside all twice met wholes outsides alls mets t pair is =
    mets t ∙ ap (λ b. b && not (has twice t)) (alls t ∙ lt-ltb t g.teams pair.home_in) ∙ ap not is ∙
    ap₂ (λ a b. not (a && b)) (out (round_of g t team) (rr.in_range t team pair))
    (out (round_of g team t) (rr.in_range team t (pair_swapped _ _ _ pair))) ∙
    not_neither (has rounds (round_of g t team)) (has rounds (round_of g team t))
  where
    out : (r : ℕ) → r < round_count g.teams → has outside r ≡ not (has rounds r)
    out r in_r = outsides r ∙ ap (λ b. b && not (has rounds r)) (wholes r ∙ lt-ltb r (round_count g.teams) in_r)

    not_neither : (a b : Bool) → not (not a && not b) ≡ (a || b)
    not_neither true b = refl
    not_neither false true = refl
    not_neither false false = refl
