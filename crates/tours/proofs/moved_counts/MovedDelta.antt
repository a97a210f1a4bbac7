-- The games that have another round than at the start after an exchange, predicted by the cells before it.
use Rattle.std.proofs.Common.{◌≡◌, ◌≢◌, ℕ, ◌+◌, ◌<◌, ◌⊎◌, Bool, true, false, not, ◌&&◌, inl, inr, refl, sym, ◌∙◌, ap, ap₂, subst, arith}
use Rattle.std.specs.Prelude.{◌==◌, if◌then◌else◌}
use Rattle.std.proofs.lemmas.Bool.{cases_eq, cond-true, cond-false, eq-eqb, ne_eqb, or_left, or_right, or_from}
use Rattle.std.proofs.lemmas.Bool.{false≢true}
use Rattle.std.proofs.lemmas.Bool.Decides.{nat_tests}
use Rattle.league.specs.Sums.{sum_below, sum_where, count_where}
use Rattle.league.proofs.ForCallers.{sum_below_same, sum_below_zero, sum_below_add, sum_below_balance}
use Rattle.fixtures.specs.declared.game.Cell.{Cell}
use Rattle.fixtures.specs.Games.{Games, round_of, round_count, cell, IsPair, IsDoubleRoundRobin}
use Rattle.fixtures.specs.Edits.{exchanged, rounds_exchanged, teams_exchanged}
use Rattle.fixtures.specs.within.Edits.{is_either}
use Rattle.fixtures.proofs.ForCallers.{is_cell, round_of_games, meets_cell, Meets, cell_teams_exchanged, round_robin_teams_exchanged}
use Rattle.fixtures.proofs.ForCallers.{round_of_teams_exchanged, other_cell, StaysAmong}
use Rattle.fixtures.proofs.ForCallers.{exchanged_first, exchanged_second, exchanged_other, cases_exchanged}
use Rattle.tours.specs.Moved.{is_moved, moved_from}
use Rattle.tours.specs.within.Moved.{cell_moved, home_moved}
use Rattle.tours.proofs.moved_counts.ByRounds.{side, by_opponent, by_rounds}
use Rattle.tours.proofs.moved_counts.TwoTeams.{around, two_teams}
use Rattle.tours.proofs.balances.Balances.{one, where_balance}
use Rattle.tours.proofs.exchanged_legs.TeamsDelta.{of_either, unmoved}

abbrev moved_one : (ℕ → ℕ → ℕ) → Games → ℕ → ℕ → ℕ
moved_one start g home away = one (is_moved start g home away)

by_tests : (own same : Bool) → one (not own && not same) ≡ (if own then 0 else one (not same))
by_tests true same = refl
by_tests false same = refl

either_way : (b : Bool) (x y : ℕ) → x ≡ y → (if b then x else y) ≡ y
either_way true x y e = e
either_way false x y e = refl

-- ---- rounds

-- a home game of a team, in the round that this gives for its own
abbrev moved_to : (ℕ → ℕ → ℕ) → ℕ → (ℕ → ℕ) → Cell → ℕ → ℕ
moved_to start t to c r = home_moved start t c (to r)

-- the moved home games of a team in a schedule whose rounds are given by those of another
row_by_rounds : (start : ℕ → ℕ → ℕ) (g g' : Games) (to : ℕ → ℕ) (t : ℕ) → IsDoubleRoundRobin g → t < g.teams →
    ((x : ℕ) → IsPair g.teams t x → round_of g' t x ≡ to (round_of g t x)) →
    count_where g.teams (is_moved start g' t) ≡ sum_below (round_count g.teams) (λ r. home_moved start t (cell g t r) (to r))
row_by_rounds start g g' to t rr in_t rounds =
    omega (
      arith,
      sum_below_same g.teams (moved_one start g' t) (by_opponent g (moved_to start t to) t true) at_home,
      sum_below_zero g.teams (by_opponent g (moved_to start t to) t false) (λ x in_x. either_way (t == x) 0 0 refl),
      by_rounds g rr (moved_to start t to) t in_t,
    )
  where
    at_home : (x : ℕ) → x < g.teams → moved_one start g' t x ≡ by_opponent g (moved_to start t to) t true x
    at_home x in_x = elim (cases_eq t x) [
      | inl own ↦ rw (eq-eqb t x own) refl
      | inr other ↦
          by_tests (t == x) (round_of g' t x == start t x) ∙
          ap (λ r. if t == x then 0 else if not (r == start t x) then 1 else 0)
          (rounds x (record { home_in = in_t; away_in = in_x; distinct = other }))
    ]

module _ (start : ℕ → ℕ → ℕ) (g : Games) (rr : IsDoubleRoundRobin g) (k l : ℕ) (p : IsPair (round_count g.teams) k l)
    (among : ℕ → Bool) where
  abbrev after : Games
  after = rounds_exchanged g k l among

  -- the moved ones of a team's home games in rounds l and k, played in these rounds
  abbrev in_two : ℕ → ℕ → ℕ → ℕ
  in_two of_l of_k t = home_moved start t (cell g t l) of_l + home_moved start t (cell g t k) of_k

  round_after : (t x : ℕ) (is_in : Bool) → among t ≡ is_in → IsPair g.teams t x →
      round_of after t x ≡ (if is_in then exchanged k l (round_of g t x) else round_of g t x)
  round_after t x is_in is pair =
      round_of_games g.teams (λ h a. if among h then exchanged k l (round_of g h a) else round_of g h a) t x pair ∙
      ap (λ b. if b then exchanged k l (round_of g t x) else round_of g t x) is

  row_in : (t : ℕ) → t < g.teams → among t ≡ true →
      count_where g.teams (is_moved start after t) + in_two l k t ≡
      count_where g.teams (is_moved start g t) + in_two k l t
  row_in t in_t is =
      let new : ℕ → ℕ = λ r. home_moved start t (cell g t r) (exchanged k l r) in
      let old : ℕ → ℕ = λ r. home_moved start t (cell g t r) r in
      omega (
        arith,
        row_by_rounds start g after (exchanged k l) t rr in_t (λ x pair. round_after t x true is pair),
        row_by_rounds start g g (λ r. r) t rr in_t (λ x pair. refl),
        sum_below_balance (round_count g.teams) new old (λ r. if is_either k l r then new r else 0)
            (λ r. if is_either k l r then old r else 0)
            (λ r in_r. where_balance (is_either k l r) (is_either k l r) (new r) (old r) (new r) (old r) refl (λ either. omega arith)
            (λ out. ap (home_moved start t (cell g t r)) (unmoved k l r out))),
        of_either (round_count g.teams) k l new p,
        of_either (round_count g.teams) k l old p,
        ap (home_moved start t (cell g t k)) (exchanged_first k l),
        ap (home_moved start t (cell g t l)) (exchanged_second k l),
      )

  row_out : (t : ℕ) → t < g.teams → among t ≡ false →
      count_where g.teams (is_moved start after t) ≡ count_where g.teams (is_moved start g t)
  row_out t in_t out =
      row_by_rounds start g after (λ r. r) t rr in_t (λ x pair. round_after t x false out pair) ∙
      sym (row_by_rounds start g g (λ r. r) t rr in_t (λ x pair. refl))

  pub rounds_delta : (teams : ℕ → Bool) → ((t : ℕ) → t < g.teams → teams t ≡ among t) →
      moved_from start after + sum_where g.teams teams (in_two l k) ≡
      moved_from start g + sum_where g.teams teams (in_two k l)
  unfolding moved_from
  rounds_delta teams members =
      sum_below_balance g.teams (λ t. count_where g.teams (is_moved start after t)) (λ t. count_where g.teams (is_moved start g t))
      (λ t. if teams t then in_two k l t else 0) (λ t. if teams t then in_two l k t else 0)
      (λ t in_t. where_balance (teams t) (teams t) (count_where g.teams (is_moved start after t))
      (count_where g.teams (is_moved start g t)) (in_two k l t) (in_two l k t) refl
      (λ is. row_in t in_t (sym (members t in_t) ∙ is)) (λ out. row_out t in_t (sym (members t in_t) ∙ out)))

-- ---- teams

-- the moved games of a team
around_by_rounds : (start : ℕ → ℕ → ℕ) (g : Games) (t : ℕ) → IsDoubleRoundRobin g → t < g.teams →
    around g.teams (moved_one start g) t ≡ sum_below (round_count g.teams) (λ r. cell_moved start t (cell g t r) r)
around_by_rounds start g t rr in_t =
    ap₂ (λ x y. x + y)
    (sum_below_same g.teams (moved_one start g t) (by_opponent g (cell_moved start t) t true)
    (λ x in_x. by_tests (t == x) (round_of g t x == start t x)))
    (sum_below_same g.teams (λ h. moved_one start g h t) (by_opponent g (cell_moved start t) t false)
    (λ x in_x. by_tests (x == t) (round_of g x t == start x t) ∙
    ap (λ b. if b then 0 else if not (round_of g x t == start x t) then 1 else 0) (swapped x t))) ∙
    by_rounds g rr (cell_moved start t) t in_t
  where
    swapped : (x y : ℕ) → (x == y) ≡ (y == x)
    swapped x y = grind (arith, nat_tests)

-- two teams don't meet in a round of the set, where it has none of the rounds of their games
pub apart : (g : Games) (rr : IsDoubleRoundRobin g) (among : ℕ → Bool) (t u r : ℕ) → t < g.teams → r < round_count g.teams →
    among r ≡ true → among (round_of g t u) ≡ false → among (round_of g u t) ≡ false → (cell g t r).opponent ≢ u
apart g rr among t u r in_t in_r is out out' e =
    let met : Meets g t u r = subst (λ (o : ℕ). Meets g t o r) e (meets_cell g t r (cell g t r) (is_cell g rr t r in_t in_r)) in
    elim met.1 [
      | inl at ↦ false≢true (sym out ∙ ap among at ∙ is)
      | inr at ↦ false≢true (sym out' ∙ ap among at ∙ is)
    ]

module _ (start : ℕ → ℕ → ℕ) (g : Games) (rr : IsDoubleRoundRobin g) (i j : ℕ) (p : IsPair g.teams i j) (among : ℕ → Bool)
    (stays : StaysAmong g.teams i j among (round_of g)) (first_out : among (round_of g i j) ≡ false)
    (second_out : among (round_of g j i) ≡ false) where
  abbrev after_teams : Games
  after_teams = teams_exchanged g i j among

  is_one : (t : ℕ) → (t ≡ i) ⊎ (t ≡ j) → is_either i j t ≡ true
  is_one t (inl e) = or_left (t == i) (t == j) (eq-eqb t i e)
  is_one t (inr e) = or_right (t == i) (t == j) (eq-eqb t j e)

  is_neither : (t : ℕ) → (t ≢ i) × (t ≢ j) → is_either i j t ≡ false
  is_neither t ne = or_from (t == i) (t == j) (ne_eqb t i ne.0) (ne_eqb t j ne.1)

  -- a game with both teams or with neither keeps its round
  round_kept : (h a : ℕ) → IsPair g.teams h a → is_either i j h ≡ is_either i j a → round_of after_teams h a ≡ round_of g h a
  round_kept h a pair alike =
      round_of_teams_exchanged g i j among p.home_in p.away_in stays h a pair ∙
      by_teams (cases_exchanged i j h) (cases_exchanged i j a)
    where
      by_teams : (h ≡ i) ⊎ ((h ≡ j) ⊎ ((h ≢ i) × (h ≢ j))) → (a ≡ i) ⊎ ((a ≡ j) ⊎ ((a ≢ i) × (a ≢ j))) →
          (if among (round_of g h a) then round_of g (exchanged i j h) (exchanged i j a) else round_of g h a) ≡ round_of g h a
      by_teams (inl of_i) (inl also_i) = absurd (pair.distinct (of_i ∙ sym also_i))
      by_teams (inl of_i) (inr (inl of_j)) = cond-false _ _ _ (ap₂ (λ x y. among (round_of g x y)) of_i of_j ∙ first_out)
      by_teams (inl of_i) (inr (inr ne)) = absurd (false≢true (sym (is_neither a ne) ∙ sym alike ∙ is_one h (inl of_i)))
      by_teams (inr (inl of_j)) (inl of_i) = cond-false _ _ _ (ap₂ (λ x y. among (round_of g x y)) of_j of_i ∙ second_out)
      by_teams (inr (inl of_j)) (inr (inl also_j)) = absurd (pair.distinct (of_j ∙ sym also_j))
      by_teams (inr (inl of_j)) (inr (inr ne)) = absurd (false≢true (sym (is_neither a ne) ∙ sym alike ∙ is_one h (inr of_j)))
      by_teams (inr (inr ne)) (inl of_i) = absurd (false≢true (sym (is_neither h ne) ∙ alike ∙ is_one a (inl of_i)))
      by_teams (inr (inr ne)) (inr (inl of_j)) = absurd (false≢true (sym (is_neither h ne) ∙ alike ∙ is_one a (inr of_j)))
      by_teams (inr (inr ne)) (inr (inr ne')) =
          either_way (among (round_of g h a)) _ _
          (ap₂ (round_of g) (exchanged_other i j h ne.0 ne.1) (exchanged_other i j a ne'.0 ne'.1))

  game_kept : (h a : ℕ) → h < g.teams → a < g.teams → is_either i j h ≡ is_either i j a →
      moved_one start after_teams h a ≡ moved_one start g h a
  game_kept h a in_h in_a alike = elim (cases_eq h a) [
    | inl own ↦ rw (eq-eqb h a own) refl
    | inr other ↦
        ap (λ r. if not (h == a) && not (r == start h a) then 1 else 0)
        (round_kept h a (record { home_in = in_h; away_in = in_a; distinct = other }) alike)
  ]

  -- the moved games of j and i in a round, if they have the cells of these teams
  abbrev in_cells : ℕ → ℕ → ℕ → ℕ
  in_cells of_j of_i r = cell_moved start j (cell g of_j r) r + cell_moved start i (cell g of_i r) r

  cell_in : (t u r : ℕ) → t < g.teams → u < g.teams → r < round_count g.teams → exchanged i j t ≡ u → among r ≡ true →
      (cell g u r).opponent ≢ i → (cell g u r).opponent ≢ j → cell after_teams t r ≡ cell g u r
  cell_in t u r in_t in_u in_r is inside not_i not_j =
      cell_teams_exchanged g rr i j among p.home_in p.away_in stays t r in_t in_r ∙ cond-true _ _ _ inside ∙
      ap (λ x. other_cell i j (cell g x r)) is ∙
      ap (λ (o : ℕ). side (cell g u r).home o) (exchanged_other i j (cell g u r).opponent not_i not_j)

  cell_out : (t r : ℕ) → t < g.teams → r < round_count g.teams → among r ≡ false → cell after_teams t r ≡ cell g t r
  cell_out t r in_t in_r out =
      cell_teams_exchanged g rr i j among p.home_in p.away_in stays t r in_t in_r ∙ cond-false _ _ _ out

  own : (t r : ℕ) → t < g.teams → r < round_count g.teams → (cell g t r).opponent ≢ t
  own t r in_t in_r e = (is_cell g rr t r in_t in_r).pair.distinct (sym e)

  in_round : (r : ℕ) (is_in : Bool) → r < round_count g.teams → is_in ≡ among r →
      (cell_moved start j (cell after_teams j r) r + cell_moved start i (cell after_teams i r) r) +
      (if is_in then in_cells j i r else 0) ≡
      in_cells j i r + (if is_in then in_cells i j r else 0)
  in_round r is_in in_r same =
      where_balance is_in is_in _ _ _ _ refl
      (λ is. let inside = sym same ∙ is in
      rw (
        cell_in j i r p.away_in p.home_in in_r (exchanged_second i j) inside (own i r p.home_in in_r)
            (apart g rr among i j r p.home_in in_r inside first_out second_out),
        cell_in i j r p.home_in p.away_in in_r (exchanged_first i j) inside
            (apart g rr among j i r p.away_in in_r inside second_out first_out) (own j r p.away_in in_r),
      )
      (omega arith))
      (λ out. ap₂ (λ (c d : Cell). cell_moved start j c r + cell_moved start i d r) (cell_out j r p.away_in in_r (sym same ∙ out))
      (cell_out i r p.home_in in_r (sym same ∙ out)))

  pub teams_delta : (rounds : ℕ → Bool) → ((r : ℕ) → r < round_count g.teams → rounds r ≡ among r) →
      moved_from start after_teams + sum_where (round_count g.teams) rounds (in_cells j i) ≡
      moved_from start g + sum_where (round_count g.teams) rounds (in_cells i j)
  unfolding moved_from
  teams_delta rounds members =
      let rr' = round_robin_teams_exchanged g rr i j among p.home_in p.away_in stays in
      omega (
        arith,
        two_teams g.teams i j (moved_one start after_teams) (moved_one start g) p game_kept,
        around_by_rounds start g i rr p.home_in,
        around_by_rounds start g j rr p.away_in,
        around_by_rounds start after_teams i rr' p.home_in,
        around_by_rounds start after_teams j rr' p.away_in,
        sum_below_add (round_count g.teams) (λ r. cell_moved start j (cell g j r) r) (λ r. cell_moved start i (cell g i r) r),
        sum_below_add (round_count g.teams) (λ r. cell_moved start j (cell after_teams j r) r)
            (λ r. cell_moved start i (cell after_teams i r) r),
        sum_below_balance (round_count g.teams)
            (λ r. cell_moved start j (cell after_teams j r) r + cell_moved start i (cell after_teams i r) r) (in_cells j i)
            (λ r. if rounds r then in_cells i j r else 0) (λ r. if rounds r then in_cells j i r else 0)
            (λ r in_r. in_round r (rounds r) in_r (members r in_r)),
      )
