-- The legs after i and j are exchanged in the rounds of a set, predicted by the stops before.
use Rattle.std.proofs.Common.{◌≡◌, ◌≢◌, ℕ, ◌+◌, ◌-◌, ◌<◌, ◌≤◌, Bool, true, false, not, ◌&&◌, ◌||◌, inl, inr, get_or}
use Rattle.std.proofs.Common.{refl, sym, ◌∙◌, ap, ap₂, arith}
use Rattle.std.specs.Prelude.{◌==◌, nat_lt, if◌then◌else◌}
use Rattle.std.proofs.lemmas.Bool.{cases_Bool, cases_eq, cases_lt, or_cases, or_parts, and_cases, cond-true, cond-false}
use Rattle.std.proofs.lemmas.Bool.{eqb-true, eqb-false, ne_eqb, true≢false}
use Rattle.std.proofs.lemmas.Bool.Decides.{nat_tests}
use Rattle.league.specs.League.{LeagueData, distance}
use Rattle.league.specs.Sums.{sum_where}
use Rattle.league.proofs.ForCallers.{sum_below_same, sum_below_only, sum_where_same}
use Rattle.fixtures.specs.declared.game.Cell.{Cell}
use Rattle.fixtures.specs.Games.{Games, round_of, round_count, cell, place, is_home, IsPair, IsDoubleRoundRobin}
use Rattle.fixtures.specs.Edits.{exchanged, teams_exchanged}
use Rattle.fixtures.specs.within.Edits.{is_either}
use Rattle.fixtures.specs.Changes.{DiffersOnlyAt}
use Rattle.fixtures.proofs.ForCallers.{exchanged_first, exchanged_second, exchanged_other, exchanged_exchanged}
use Rattle.fixtures.proofs.ForCallers.{exchanged_lt, games_ext, cell_teams_exchanged, other_cell, StaysAmong}
use Rattle.fixtures.proofs.ForCallers.{meets_cell, is_cell}
use Rattle.tours.specs.Tours.{tour, leg_count, leg, travel}
use Rattle.tours.specs.Parts.{touches_leg, travel_part_of}
use Rattle.tours.specs.within.Walked.{with_guests, part_of, guest_terms}
use Rattle.tours.specs.within.Delta.{in_rounds, stop_predicted, leg_predicted}
use Rattle.tours.proofs.stops.Stops.{tour_at_round, tour_at_end}
use Rattle.tours.proofs.balances.TravelBalance.{travel_at, travel_balance_at}
use Rattle.tours.proofs.legs.GuestLegs.{around, around_walked}
use Rattle.tours.proofs.meetings.Opponents.{opponent_in}
use Rattle.tours.proofs.exchanged_legs.RoundsDelta.{and_one}

-- which stops are those of rounds of the set

pub at_round : (index rounds : ℕ) (at : Bool) → 0 < index → index - 1 < rounds →
    (not (index == 0) && (nat_lt (index - 1) rounds && at)) ≡ at
at_round index rounds at some in_r = grind (arith, nat_tests)

at_first : (index rounds : ℕ) (at : Bool) → index ≡ 0 → (not (index == 0) && (nat_lt (index - 1) rounds && at)) ≡ false
at_first index rounds at first = grind (arith, nat_tests)

at_last : (index rounds : ℕ) (at : Bool) → rounds < index → (not (index == 0) && (nat_lt (index - 1) rounds && at)) ≡ false
at_last index rounds at last = grind (arith, nat_tests)

-- a team that is neither stays
pub unmoved : (i j x : ℕ) → is_either i j x ≡ false → exchanged i j x ≡ x
unmoved i j x out =
    let parts = or_parts (x == i) (x == j) out in exchanged_other i j x (eqb-false x i parts.0) (eqb-false x j parts.1)

pub of_either : (n i j : ℕ) (f : ℕ → ℕ) → IsPair n i j → sum_where n (is_either i j) f ≡ f j + f i
of_either n i j f p =
    and_one n i (λ t. t == j) f p.home_in (ne_eqb i j p.distinct) ∙
    ap (λ x. x + f i)
    (sum_below_only n j (λ t. if t == j then f t else 0) p.away_in
    (λ t in_t other. cond-false (t == j) (f t) 0 (ne_eqb t j other)) ∙ own)
  where
    own : (if j == j then f j else 0) ≡ f j
    own = grind (arith, nat_tests)

module _ (g : Games) (rr : IsDoubleRoundRobin g) (i j : ℕ) (p : IsPair g.teams i j) (rounds : ℕ → Bool)
    (stays : StaysAmong g.teams i j rounds (round_of g)) where
  abbrev after : Games
  after = teams_exchanged g i j rounds

  cell_after : (t r : ℕ) → t < g.teams → r < round_count g.teams →
      cell after t r ≡ (if rounds r then other_cell i j (cell g (exchanged i j t) r) else cell g t r)
  cell_after = cell_teams_exchanged g rr i j rounds p.home_in p.away_in stays

  at_side : (t o : ℕ) (home : Bool) →
      (if home then t else exchanged i j o) ≡ exchanged i j (if home then exchanged i j t else o)
  at_side t o true = sym (exchanged_exchanged i j t)
  at_side t o false = refl

  place_there : (t r : ℕ) → t < g.teams → r < round_count g.teams → rounds r ≡ true →
      place after t r ≡ exchanged i j (place g (exchanged i j t) r)
  unfolding place
  place_there t r in_t in_r there =
      ap (λ (c : Cell). if c.home then t else c.opponent) (cell_after t r in_t in_r ∙ cond-true _ _ _ there) ∙
      at_side t (cell g (exchanged i j t) r).opponent (cell g (exchanged i j t) r).home

  place_elsewhere : (t r : ℕ) → t < g.teams → r < round_count g.teams → rounds r ≡ false → place after t r ≡ place g t r
  unfolding place
  place_elsewhere t r in_t in_r out =
      ap (λ (c : Cell). if c.home then t else c.opponent) (cell_after t r in_t in_r ∙ cond-false _ _ _ out)

  stop_after : (t index : ℕ) → t < g.teams → index ≤ round_count g.teams + 1 →
      get_or (tour after t) index 0 ≡ stop_predicted g i j rounds t index
  unfolding stop_predicted
  stop_after t index in_t in_tour = elim (cases_eq index 0) [
    | inl first ↦
        ap (λ x. get_or (tour after t) x 0) first ∙
        sym (cond-false _ _ _ (at_first index (round_count g.teams) (rounds (index - 1)) first) ∙
        ap (λ x. get_or (tour g t) x 0) first)
    | inr some ↦ elim (cases_lt (round_count g.teams) index) [
      | inl at_end ↦
          let last : index ≡ round_count g.teams + 1 = omega arith in
          ap (λ x. get_or (tour after t) x 0) last ∙ tour_at_end after t ∙
          sym (cond-false _ _ _ (at_last index (round_count g.teams) (rounds (index - 1)) at_end) ∙
          ap (λ x. get_or (tour g t) x 0) last ∙ tour_at_end g t)
      | inr in_season ↦
          let next : index ≡ (index - 1) + 1 = omega arith in
          let in_r : index - 1 < round_count g.teams = omega arith in
          let is : in_rounds g rounds index ≡ rounds (index - 1) =
          at_round index (round_count g.teams) (rounds (index - 1)) (omega arith) in_r in
          ap (λ x. get_or (tour after t) x 0) next ∙ tour_at_round after t (index - 1) in_r ∙
          elim (cases_Bool (rounds (index - 1))) [
            | inl there ↦
                place_there t (index - 1) in_t in_r there ∙
                sym (cond-true _ _ _ (is ∙ there) ∙
                ap (exchanged i j) (ap (λ x. get_or (tour g (exchanged i j t)) x 0) next ∙
                tour_at_round g (exchanged i j t) (index - 1) in_r))
            | inr out ↦
                place_elsewhere t (index - 1) in_t in_r out ∙
                sym (cond-false _ _ _ (is ∙ out) ∙ ap (λ x. get_or (tour g t) x 0) next ∙
                tour_at_round g t (index - 1) in_r)
          ]
    ]
  ]

  leg_after : (l : LeagueData) (t r : ℕ) → t < g.teams → r < leg_count g → leg l after t r ≡ leg_predicted l g i j rounds t r
  unfolding leg
  leg_after l t r in_t in_r =
      ap₂ (distance l) (stop_after t r in_t (omega arith)) (stop_after t (r + 1) in_t (omega arith))

  -- places differ only at i and j and at their guests
  places_differ : DiffersOnlyAt place g after (with_guests g (is_either i j) rounds)
  unfolding with_guests
  places_differ = record {
    same_size = refl;
    same = λ t r in_t in_r out. elim (cases_Bool (rounds r)) [
      | inr elsewhere ↦ place_elsewhere t r in_t in_r elsewhere
      | inl there ↦ elim (and_cases (rounds r) (is_either i j t || is_either i j (place g t r)) out) [
        | inl no_round ↦ absurd (true≢false (sym there ∙ no_round))
        | inr neither ↦
            let parts = or_parts (is_either i j t) (is_either i j (place g t r)) neither in
            place_there t r in_t in_r there ∙ ap (λ u. exchanged i j (place g u r)) (unmoved i j t parts.0) ∙
            unmoved i j (place g t r) parts.1
      ]
    ];
  }

  around_after : (l : LeagueData) →
      travel_at l after (with_guests g (is_either i j) rounds) ≡ around (leg_predicted l g i j rounds) g (is_either i j) rounds
  unfolding travel_part_of touches_leg
  around_after l =
      sum_below_same g.teams
      (λ t. sum_where (leg_count g) (touches_leg g (with_guests g (is_either i j) rounds t)) (leg l after t))
      (λ t. part_of (leg_predicted l g i j rounds) g (with_guests g (is_either i j) rounds t) t)
      (λ t in_t. sum_where_same (leg_count g) (touches_leg g (with_guests g (is_either i j) rounds t))
      (touches_leg g (with_guests g (is_either i j) rounds t)) (leg l after t) (leg_predicted l g i j rounds t)
      (λ r in_r. refl) (λ r in_r touched. leg_after l t r in_t in_r))

  around_before : (l : LeagueData) →
      travel_at l g (with_guests g (is_either i j) rounds) ≡ around (leg l g) g (is_either i j) rounds
  unfolding travel_part_of
  around_before l = refl

  -- the legs of i and j, and those of their guests
  abbrev guests_of : (ℕ → ℕ → ℕ) → ℕ → ℕ
  guests_of f t = sum_where (round_count g.teams) (λ r. rounds r && is_home g t r) (guest_terms f g (is_either i j) rounds t)

  parts_of : (f : ℕ → ℕ → ℕ) → around f g (is_either i j) rounds ≡
      (part_of f g rounds j + part_of f g rounds i) + (guests_of f j + guests_of f i)
  parts_of f =
      around_walked f g (is_either i j) rounds rr ∙
      ap₂ (λ x y. x + y) (of_either g.teams i j (part_of f g rounds) p) (of_either g.teams i j (guests_of f) p)

  pub travel_delta : (l : LeagueData) →
      travel l after + ((part_of (leg l g) g rounds j + part_of (leg l g) g rounds i) +
      (guests_of (leg l g) j + guests_of (leg l g) i)) ≡
      travel l g + ((part_of (leg_predicted l g i j rounds) g rounds j + part_of (leg_predicted l g i j rounds) g rounds i) +
      (guests_of (leg_predicted l g i j rounds) j + guests_of (leg_predicted l g i j rounds) i))
  travel_delta l =
      ap (λ x. travel l after + x) (sym (around_before l ∙ parts_of (leg l g))) ∙
      travel_balance_at l g after (with_guests g (is_either i j) rounds) places_differ ∙
      ap (λ x. travel l g + x) (around_after l ∙ parts_of (leg_predicted l g i j rounds))

-- in a round of the set i and j don't meet

module _ (g : Games) (rr : IsDoubleRoundRobin g) (i j : ℕ) (rounds : ℕ → Bool)
    (first_out : rounds (round_of g i j) ≡ false) (second_out : rounds (round_of g j i) ≡ false) where
  pair_out : (x y : ℕ) → is_either i j x ≡ true → is_either i j y ≡ true → x ≢ y → rounds (round_of g x y) ≡ false
  pair_out x y of_x of_y apart = elim (or_cases (x == i) (x == j) of_x) [
    | inl xi ↦ elim (or_cases (y == i) (y == j) of_y) [
      | inl yi ↦ absurd (apart (eqb-true x i xi ∙ sym (eqb-true y i yi)))
      | inr yj ↦ ap₂ (λ a b. rounds (round_of g a b)) (eqb-true x i xi) (eqb-true y j yj) ∙ first_out
    ]
    | inr xj ↦ elim (or_cases (y == i) (y == j) of_y) [
      | inl yi ↦ ap₂ (λ a b. rounds (round_of g a b)) (eqb-true x j xj) (eqb-true y i yi) ∙ second_out
      | inr yj ↦ absurd (apart (eqb-true x j xj ∙ sym (eqb-true y j yj)))
    ]
  ]

  pub meets_neither : (t r : ℕ) → is_either i j t ≡ true → t < g.teams → r < round_count g.teams → rounds r ≡ true →
      is_either i j (opponent_in g r t) ≡ false
  meets_neither t r of_t in_t in_r there = elim (cases_Bool (is_either i j (opponent_in g r t))) [
    | inr out ↦ out
    | inl of_both ↦
        let meets = meets_cell g t r (cell g t r) (is_cell g rr t r in_t in_r) in
        let apart : t ≢ opponent_in g r t = meets.0.distinct in
        elim meets.1 [
          | inl e ↦ absurd (true≢false (sym there ∙ ap rounds (sym e) ∙ pair_out t (opponent_in g r t) of_t of_both apart))
          | inr e ↦
              absurd (true≢false (sym there ∙ ap rounds (sym e) ∙
              pair_out (opponent_in g r t) t of_both of_t (λ is. apart (sym is))))
        ]
  ]

-- the stops of i and j

pub delta_out : (g : Games) (i j : ℕ) (rounds : ℕ → Bool) (t k : ℕ) → in_rounds g rounds k ≡ false →
    stop_predicted g i j rounds t k ≡ get_or (tour g t) k 0
unfolding stop_predicted
delta_out g i j rounds t k out = cond-false _ _ _ out

pub delta_first : (g : Games) (i j : ℕ) (rounds : ℕ → Bool) (k : ℕ) → in_rounds g rounds k ≡ true →
    stop_predicted g i j rounds i k ≡ exchanged i j (get_or (tour g j) k 0)
unfolding stop_predicted
delta_first g i j rounds k is =
    cond-true _ _ _ is ∙ ap (λ u. exchanged i j (get_or (tour g u) k 0)) (exchanged_first i j)

pub delta_second : (g : Games) (i j : ℕ) (rounds : ℕ → Bool) (k : ℕ) → in_rounds g rounds k ≡ true →
    stop_predicted g i j rounds j k ≡ exchanged i j (get_or (tour g i) k 0)
unfolding stop_predicted
delta_second g i j rounds k is =
    cond-true _ _ _ is ∙ ap (λ u. exchanged i j (get_or (tour g u) k 0)) (exchanged_second i j)

-- the rounds of a set that the season has

module _ (g : Games) (rr : IsDoubleRoundRobin g) (i j : ℕ) (p : IsPair g.teams i j) (rounds among : ℕ → Bool)
    (cut : (r : ℕ) → r < round_count g.teams → rounds r ≡ among r) where
  pub cut_exchanged : teams_exchanged g i j rounds ≡ teams_exchanged g i j among
  cut_exchanged = games_ext g.teams _ _ (λ h a q.
      ap (λ b. if b then round_of g (exchanged i j h) (exchanged i j a) else round_of g h a)
      (cut (round_of g h a) (rr.in_range h a q)))

  pair_exchanged : (h a : ℕ) → IsPair g.teams h a → IsPair g.teams (exchanged i j h) (exchanged i j a)
  pair_exchanged h a q = record {
    home_in = exchanged_lt g.teams i j h p.home_in p.away_in q.home_in;
    away_in = exchanged_lt g.teams i j a p.home_in p.away_in q.away_in;
    distinct = λ e. q.distinct (sym (exchanged_exchanged i j h) ∙ ap (exchanged i j) e ∙ exchanged_exchanged i j a);
  }

  pub cut_stays : StaysAmong g.teams i j among (round_of g) → StaysAmong g.teams i j rounds (round_of g)
  cut_stays stays h a q is =
      cut (round_of g (exchanged i j h) (exchanged i j a)) (rr.in_range _ _ (pair_exchanged h a q)) ∙
      stays h a q (sym (cut (round_of g h a) (rr.in_range h a q)) ∙ is)

pub of_first : (i j : ℕ) → is_either i j i ≡ true
of_first i j = grind (arith, nat_tests)

pub of_second : (i j : ℕ) → is_either i j j ≡ true
of_second i j = grind (arith, nat_tests)

-- the whole
pub delta_whole : (new old parts_now parts_delta guests_now guests_delta before after : ℕ) →
    new + (parts_now + guests_now) ≡ old + (parts_delta + guests_delta) → parts_delta + before ≡ parts_now + after →
    new + (before + guests_now) ≡ old + (after + guests_delta)
delta_whole new old parts_now parts_delta guests_now guests_delta before after whole own = omega arith
