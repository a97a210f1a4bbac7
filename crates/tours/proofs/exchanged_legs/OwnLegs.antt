-- The own legs of two teams that are exchanged in the rounds of a set: they change where a team flips between home and
-- away, and at the edges of the set.
use Rattle.std.proofs.Common.{◌≡◌, ℕ, zero, suc, ◌+◌, ◌-◌, ◌<◌, Bool, true, false, not, ◌&&◌, ◌||◌, inl, inr, refl, sym}
use Rattle.std.proofs.Common.{◌∙◌, ap, ap₂, arith, add-one}
use Rattle.std.specs.Prelude.{◌==◌, nat_lt, if◌then◌else◌}
use Rattle.std.specs.Bool.{beq}
use Rattle.std.proofs.lemmas.Bool.{cases_lt, and_parts, and_left, cond-true, lt-ltb, true≢false, false≢true}
use Rattle.std.proofs.lemmas.Bool.Decides.{nat_tests}
use Rattle.std.proofs.Math.Nat.{add-zero}
use Rattle.league.specs.League.{LeagueData, distance}
use Rattle.league.specs.Sets.{has}
use Rattle.league.specs.Sums.{sum_below, sum_where, all_below}
use Rattle.league.proofs.ForCallers.{sum_below_more, sum_below_same, sum_below_add, sum_below_balance}
use Rattle.fixtures.specs.Games.{Games, round_of, round_count, cell, place, is_home, IsPair, IsDoubleRoundRobin}
use Rattle.fixtures.specs.Edits.{exchanged}
use Rattle.fixtures.specs.within.Edits.{is_either}
use Rattle.fixtures.specs.Changes.{flips}
use Rattle.fixtures.proofs.ForCallers.{exchanged_first, exchanged_second}
use Rattle.tours.specs.Tours.{leg_count, leg}
use Rattle.tours.specs.Parts.{touches_leg}
use Rattle.tours.specs.within.Walked.{part_of}
use Rattle.tours.specs.within.Delta.{stop_predicted, leg_predicted, leg_flipped, AreFlips}
use Rattle.tours.proofs.stops.Stops.{tour_at_round}
use Rattle.tours.proofs.meetings.Opponents.{opponent_in}
use Rattle.tours.proofs.exchanged_legs.TeamsDelta.{at_round, unmoved, meets_neither, of_first, of_second}

-- the legs of both, the first and those that come after a round

pub first_leg : (n : ℕ) (h : ℕ → ℕ) → sum_below (n + 1) h ≡ h 0 + sum_below n (λ s. h (s + 1))
unfolding sum_below
first_leg zero h = omega (arith, sum_below_more 0 h)
first_leg (suc n) h =
    omega (arith, sum_below_more (suc n) h, sum_below_more n h, first_leg n h, ap h (add-one n))

both_terms : (b : Bool) (x y : ℕ) → (if b then x else 0) + (if b then y else 0) ≡ (if b then x + y else 0)
both_terms true x y = refl
both_terms false x y = refl

touched_after : (s n : ℕ) (before at : Bool) → s < n → (s + 1 ≡ n → at ≡ false) →
    ((not (s + 1 == 0) && before) || (nat_lt (s + 1) n && at)) ≡ (before || at)
touched_after s n before at in_s last = elim (cases_lt (s + 1) n) [
  | inl more ↦ grind (arith, nat_tests)
  | inr end ↦ let out : at ≡ false = last (omega arith) in grind (arith, nat_tests, out)
]

own_legs_of : (g : Games) (f : ℕ → ℕ → ℕ) (i j : ℕ) (rounds : ℕ → Bool) → 0 < round_count g.teams →
    rounds (round_count g.teams) ≡ false →
    part_of f g rounds j + part_of f g rounds i ≡
    (if rounds 0 then f j 0 + f i 0 else 0) +
    sum_where (round_count g.teams) (λ s. rounds s || rounds (s + 1)) (λ s. f j (s + 1) + f i (s + 1))
unfolding touches_leg
own_legs_of g f i j rounds some beyond =
    sym (sum_below_add (leg_count g) (λ r. if touches_leg g rounds r then f j r else 0)
    (λ r. if touches_leg g rounds r then f i r else 0)) ∙
    sum_below_same (leg_count g)
    (λ r. (if touches_leg g rounds r then f j r else 0) + (if touches_leg g rounds r then f i r else 0))
    (λ r. if touches_leg g rounds r then f j r + f i r else 0)
    (λ r in_r. both_terms (touches_leg g rounds r) (f j r) (f i r)) ∙
    first_leg (round_count g.teams) (λ r. if touches_leg g rounds r then f j r + f i r else 0) ∙
    ap₂ (λ x y. x + y)
    (ap (λ b. if b && rounds 0 then f j 0 + f i 0 else 0) (lt-ltb 0 (round_count g.teams) some))
    (sum_below_same (round_count g.teams) (λ s. if touches_leg g rounds (s + 1) then f j (s + 1) + f i (s + 1) else 0)
    (λ s. if rounds s || rounds (s + 1) then f j (s + 1) + f i (s + 1) else 0)
    (λ s in_s. ap (λ b. if b then f j (s + 1) + f i (s + 1) else 0) (touched s in_s)))
  where
    touched : (s : ℕ) → s < round_count g.teams → touches_leg g rounds (s + 1) ≡ (rounds s || rounds (s + 1))
    touched s in_s =
        let back : s + 1 - 1 ≡ s = omega arith in
        ap (λ k. (not (s + 1 == 0) && rounds k) || (nat_lt (s + 1) (round_count g.teams) && rounds (s + 1))) back ∙
        touched_after s (round_count g.teams) (rounds s) (rounds (s + 1)) in_s (λ last. ap rounds last ∙ beyond)

-- what a leg of both adds: before and after, and to what is counted

one_leg : (edge a b flip_j flip_i : Bool) (lj li tj ti xj xi : ℕ) → edge ≡ ((a || b) && not (a && b)) →
    ((a && b) ≡ false → flip_j ≡ false) → ((a && b) ≡ false → flip_i ≡ false) →
    ((a && b) ≡ true → (tj ≡ xi) × (ti ≡ xj)) →
    ((a && b) ≡ true → flip_j ≡ false → xj ≡ lj) → ((a && b) ≡ true → flip_i ≡ false → xi ≡ li) →
    (if a || b then tj + ti else 0) +
    ((if edge then lj + li else 0) + ((if flip_j then lj else 0) + (if flip_i then li else 0))) ≡
    (if a || b then lj + li else 0) +
    ((if edge then tj + ti else 0) + ((if flip_j then xj else 0) + (if flip_i then xi else 0)))
one_leg edge true true true true lj li tj ti xj xi is out_j out_i flipped stays_j stays_i =
    let e : (tj ≡ xi) × (ti ≡ xj) = flipped refl in rw is (omega (arith, e.0, e.1))
one_leg edge true true true false lj li tj ti xj xi is out_j out_i flipped stays_j stays_i =
    let e : (tj ≡ xi) × (ti ≡ xj) = flipped refl in rw is (omega (arith, e.0, e.1, stays_i refl refl))
one_leg edge true true false true lj li tj ti xj xi is out_j out_i flipped stays_j stays_i =
    let e : (tj ≡ xi) × (ti ≡ xj) = flipped refl in rw is (omega (arith, e.0, e.1, stays_j refl refl))
one_leg edge true true false false lj li tj ti xj xi is out_j out_i flipped stays_j stays_i =
    let e : (tj ≡ xi) × (ti ≡ xj) = flipped refl in
    rw is (omega (arith, e.0, e.1, stays_j refl refl, stays_i refl refl))
one_leg edge true false flip_j flip_i lj li tj ti xj xi is out_j out_i flipped stays_j stays_i =
    rw (is, out_j refl, out_i refl) (omega arith)
one_leg edge false true flip_j flip_i lj li tj ti xj xi is out_j out_i flipped stays_j stays_i =
    rw (is, out_j refl, out_i refl) (omega arith)
one_leg edge false false flip_j flip_i lj li tj ti xj xi is out_j out_i flipped stays_j stays_i =
    rw (is, out_j refl, out_i refl) refl

-- whole sums

all_legs : (delta now delta_first now_first delta_rest now_rest part_now part_delta sums_now sums_delta : ℕ) →
    delta ≡ delta_first + delta_rest → now ≡ now_first + now_rest → delta_rest + part_now ≡ now_rest + part_delta →
    part_now ≡ sums_now → part_delta ≡ sums_delta →
    delta + (now_first + sums_now) ≡ now + (delta_first + sums_delta)
all_legs delta now delta_first now_first delta_rest now_rest part_now part_delta sums_now sums_delta a b c d e = omega arith

three_sums : (n : ℕ) (a b c : ℕ → ℕ) →
    sum_below n (λ s. a s + (b s + c s)) ≡ sum_below n a + (sum_below n b + sum_below n c)
three_sums n a b c =
    sum_below_add n a (λ s. b s + c s) ∙ ap (λ x. sum_below n a + x) (sum_below_add n b c)

pub same_side : (g : Games) (r s t : ℕ) → flips g r s t ≡ false → is_home g t r ≡ is_home g t s
unfolding flips
same_side g r s t = by_sides (is_home g t r) (is_home g t s)
  where
    by_sides : (x y : Bool) → not (beq x y) ≡ false → x ≡ y
    by_sides true true e = refl
    by_sides true false e = e
    by_sides false true e = sym e
    by_sides false false e = refl

module _ (l : LeagueData) (diagonal : (a : ℕ) → distance l a a ≡ 0) (g : Games) (rr : IsDoubleRoundRobin g) (i j : ℕ)
    (p : IsPair g.teams i j) (rounds : ℕ → Bool) (first_out : rounds (round_of g i j) ≡ false)
    (second_out : rounds (round_of g j i) ≡ false) (beyond : rounds (round_count g.teams) ≡ false) where
  same_way : (t o o' : ℕ) (home home' : Bool) → home ≡ home' → is_either i j o ≡ false → is_either i j o' ≡ false →
      distance l (exchanged i j (if home then t else o)) (exchanged i j (if home' then t else o')) ≡
      distance l (if home then t else o) (if home' then t else o')
  same_way t o o' true true same out out' = diagonal (exchanged i j t) ∙ sym (diagonal t)
  same_way t o o' true false same out out' = absurd (true≢false same)
  same_way t o o' false true same out out' = absurd (false≢true same)
  same_way t o o' false false same out out' = ap₂ (distance l) (unmoved i j o out) (unmoved i j o' out')

  not_flipped : (t s : ℕ) → is_either i j t ≡ true → t < g.teams → s + 1 < round_count g.teams → rounds s ≡ true →
      rounds (s + 1) ≡ true → is_home g t s ≡ is_home g t (s + 1) → leg_flipped l g i j t (s + 1) ≡ leg l g t (s + 1)
  unfolding leg place is_home
  not_flipped t s of_t in_t in_r here next same =
      ap₂ (λ x y. distance l (exchanged i j x) (exchanged i j y)) (tour_at_round g t s (omega arith))
      (tour_at_round g t (s + 1) in_r) ∙
      same_way t (opponent_in g s t) (opponent_in g (s + 1) t) (cell g t s).home (cell g t (s + 1)).home same
      (meets_neither g rr i j rounds first_out second_out t s of_t in_t (omega arith) here)
      (meets_neither g rr i j rounds first_out second_out t (s + 1) of_t in_t in_r next) ∙
      sym (ap₂ (distance l) (tour_at_round g t s (omega arith)) (tour_at_round g t (s + 1) in_r))

  both_in : (t s : ℕ) → s + 1 < round_count g.teams → rounds s ≡ true → rounds (s + 1) ≡ true →
      leg_predicted l g i j rounds t (s + 1) ≡ leg_flipped l g i j (exchanged i j t) (s + 1)
  unfolding stop_predicted
  both_in t s in_r here next =
      let back : s + 1 - 1 ≡ s = omega arith in
      let back_next : s + 1 + 1 - 1 ≡ s + 1 = omega arith in
      ap₂ (distance l)
      (cond-true _ _ _ (at_round (s + 1) (round_count g.teams) (rounds (s + 1 - 1)) (omega arith) (omega arith) ∙
      ap rounds back ∙ here))
      (cond-true _ _ _ (at_round (s + 1 + 1) (round_count g.teams) (rounds (s + 1 + 1 - 1)) (omega arith) (omega arith) ∙
      ap rounds back_next ∙ next))

  next_in : (s : ℕ) → s < round_count g.teams → rounds (s + 1) ≡ true → s + 1 < round_count g.teams
  next_in s in_s is = elim (cases_lt (s + 1) (round_count g.teams)) [
    | inl more ↦ more
    | inr end ↦
        let last : s + 1 ≡ round_count g.teams = omega arith in
        absurd (true≢false (sym is ∙ ap rounds last ∙ beyond))
  ]

  module _ (edges inner flips_j flips_i : ℕ) (some : 0 < round_count g.teams)
      (is_inner : (s : ℕ) → has inner s ≡ (rounds s && rounds (s + 1)))
      (is_edges : (s : ℕ) → has edges s ≡ ((rounds s || rounds (s + 1)) && not (rounds s && rounds (s + 1))))
      (are_j : AreFlips g inner j flips_j) (are_i : AreFlips g inner i flips_i) where
    abbrev now : ℕ → ℕ → ℕ
    now = leg l g

    abbrev delta : ℕ → ℕ → ℕ
    delta = leg_predicted l g i j rounds

    abbrev flipped : ℕ → ℕ → ℕ
    flipped = leg_flipped l g i j

    stays : (t s flips_t : ℕ) → AreFlips g inner t flips_t → is_either i j t ≡ true → t < g.teams →
        s < round_count g.teams → (rounds s && rounds (s + 1)) ≡ true → has flips_t s ≡ false →
        flipped t (s + 1) ≡ now t (s + 1)
    stays t s flips_t are of_t in_t in_s both out =
        let parts = and_parts (rounds s) (rounds (s + 1)) both in
        let next : s + 1 < round_count g.teams = next_in s in_s parts.1 in
        not_flipped t s of_t in_t next parts.0 parts.1
        (same_side g s (s + 1) t (sym (are.flipping s next (is_inner s ∙ both)) ∙ out))

    each : (s : ℕ) → s < round_count g.teams →
        (if rounds s || rounds (s + 1) then delta j (s + 1) + delta i (s + 1) else 0) +
        ((if has edges s then now j (s + 1) + now i (s + 1) else 0) +
        ((if has flips_j s then now j (s + 1) else 0) + (if has flips_i s then now i (s + 1) else 0))) ≡
        (if rounds s || rounds (s + 1) then now j (s + 1) + now i (s + 1) else 0) +
        ((if has edges s then delta j (s + 1) + delta i (s + 1) else 0) +
        ((if has flips_j s then flipped j (s + 1) else 0) + (if has flips_i s then flipped i (s + 1) else 0)))
    each s in_s =
        one_leg (has edges s) (rounds s) (rounds (s + 1)) (has flips_j s) (has flips_i s) (now j (s + 1)) (now i (s + 1))
        (delta j (s + 1)) (delta i (s + 1)) (flipped j (s + 1)) (flipped i (s + 1)) (is_edges s)
        (λ out. are_j.inside s (is_inner s ∙ out)) (λ out. are_i.inside s (is_inner s ∙ out)) swapped
        (λ both. stays j s flips_j are_j (of_second i j) p.away_in in_s both)
        (λ both. stays i s flips_i are_i (of_first i j) p.home_in in_s both)
      where
        swapped : (rounds s && rounds (s + 1)) ≡ true →
            (delta j (s + 1) ≡ flipped i (s + 1)) × (delta i (s + 1) ≡ flipped j (s + 1))
        swapped both =
            let parts = and_parts (rounds s) (rounds (s + 1)) both in
            let next : s + 1 < round_count g.teams = next_in s in_s parts.1 in (
              both_in j s next parts.0 parts.1 ∙ ap (λ t. flipped t (s + 1)) (exchanged_second i j),
              both_in i s next parts.0 parts.1 ∙ ap (λ t. flipped t (s + 1)) (exchanged_first i j),
            )

    pub own_balance :
        (part_of delta g rounds j + part_of delta g rounds i) +
        ((if rounds 0 then now j 0 + now i 0 else 0) +
        (sum_where (round_count g.teams) (has edges) (λ s. now j (s + 1) + now i (s + 1)) +
        (sum_where (round_count g.teams) (has flips_j) (λ s. now j (s + 1)) +
        sum_where (round_count g.teams) (has flips_i) (λ s. now i (s + 1))))) ≡
        (part_of now g rounds j + part_of now g rounds i) +
        ((if rounds 0 then delta j 0 + delta i 0 else 0) +
        (sum_where (round_count g.teams) (has edges) (λ s. delta j (s + 1) + delta i (s + 1)) +
        (sum_where (round_count g.teams) (has flips_j) (λ s. flipped j (s + 1)) +
        sum_where (round_count g.teams) (has flips_i) (λ s. flipped i (s + 1)))))
    own_balance =
        all_legs _ _ _ _ _ _ _ _ _ _ (own_legs_of g delta i j rounds some beyond) (own_legs_of g now i j rounds some beyond)
        (sum_below_balance (round_count g.teams)
        (λ s. if rounds s || rounds (s + 1) then delta j (s + 1) + delta i (s + 1) else 0)
        (λ s. if rounds s || rounds (s + 1) then now j (s + 1) + now i (s + 1) else 0)
        (λ s. (if has edges s then delta j (s + 1) + delta i (s + 1) else 0) +
        ((if has flips_j s then flipped j (s + 1) else 0) + (if has flips_i s then flipped i (s + 1) else 0)))
        (λ s. (if has edges s then now j (s + 1) + now i (s + 1) else 0) +
        ((if has flips_j s then now j (s + 1) else 0) + (if has flips_i s then now i (s + 1) else 0)))
        each)
        (three_sums (round_count g.teams) (λ s. if has edges s then now j (s + 1) + now i (s + 1) else 0)
        (λ s. if has flips_j s then now j (s + 1) else 0) (λ s. if has flips_i s then now i (s + 1) else 0))
        (three_sums (round_count g.teams) (λ s. if has edges s then delta j (s + 1) + delta i (s + 1) else 0)
        (λ s. if has flips_j s then flipped j (s + 1) else 0) (λ s. if has flips_i s then flipped i (s + 1) else 0))

-- the sets of the walk

pub has_both : (set k : ℕ) → all_below 2 (λ n. has set (k + n)) ≡ (has set k && has set (k + 1))
unfolding all_below
has_both set k = rw (add-zero k) refl

pub are_flips : (g : Games) (inner t home like set n : ℕ) → n ≡ round_count g.teams →
    ((r : ℕ) → has home r ≡ (nat_lt r (round_count g.teams) && is_home g t r)) →
    ((s : ℕ) → has like s ≡ (nat_lt (s + 1) n && beq (has home s) (has home (s + 1)))) →
    ((s : ℕ) → has set s ≡ (has inner s && not (has like s))) → AreFlips g inner t set
unfolding flips
are_flips g inner t home like set n is_n is_home_set is_like is_set = record {
  inside = λ s out. is_set s ∙ and_left (has inner s) (not (has like s)) out;
  flipping = λ s next is.
      is_set s ∙ ap (λ b. b && not (has like s)) is ∙
      ap not (is_like s ∙ ap (λ b. b && beq (has home s) (has home (s + 1))) (lt-ltb (s + 1) n (omega arith)) ∙
      ap₂ beq (at_home s (omega arith)) (at_home (s + 1) next));
}
  where
    at_home : (r : ℕ) → r < round_count g.teams → has home r ≡ is_home g t r
    at_home r in_r = is_home_set r ∙ ap (λ b. b && is_home g t r) (lt-ltb r (round_count g.teams) in_r)
