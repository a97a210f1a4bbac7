-- The legs of a guest around its game at one of two teams that are exchanged.
use Rattle.std.proofs.Common.{◌≡◌, ◌≢◌, ℕ, ◌+◌, ◌-◌, ◌<◌, Bool, true, false, not, ◌&&◌, ◌||◌, inl, inr, get_or, refl}
use Rattle.std.proofs.Common.{sym, ◌∙◌, ap, ap₂, arith}
use Rattle.std.specs.Prelude.{◌==◌, nat_lt, if◌then◌else◌}
use Rattle.std.proofs.lemmas.Bool.{cases_eq, cases_lt, or_cases, cond-true, cond-false, eqb-true, ne_eqb, false≢true}
use Rattle.std.proofs.lemmas.Bool.Decides.{nat_tests}
use Rattle.league.specs.League.{LeagueData, distance}
use Rattle.league.specs.Sets.{has}
use Rattle.fixtures.specs.Games.{Games, round_of, round_count, cell, place, is_home, IsCell, IsDoubleRoundRobin}
use Rattle.fixtures.specs.Edits.{exchanged}
use Rattle.fixtures.specs.within.Edits.{is_either}
use Rattle.fixtures.proofs.ForCallers.{exchanged_first, exchanged_second, exchanged_exchanged, is_cell}
use Rattle.tours.specs.Tours.{tour, leg}
use Rattle.tours.specs.within.Walked.{with_guests, guest_terms}
use Rattle.tours.specs.within.Delta.{in_rounds, stop_predicted, leg_predicted}
use Rattle.tours.specs.within.Exchanges.{leg_before, leg_after, around_visit}
use Rattle.tours.specs.declared.teams_delta.exchange.TeamExchange.{TeamExchange}
use Rattle.tours.proofs.stops.Stops.{tour_at_round, tour_at_end}
use Rattle.tours.proofs.meetings.Opponents.{side_of_opponent, IsPairing-opponents}
use Rattle.tours.proofs.legs.GuestSteps.{followed_by_next}
use Rattle.tours.proofs.exchanged_legs.TeamsDelta.{at_round, unmoved, meets_neither}

-- a place is exchanged in a round of the set, where it is that of one of the two
by_tests : (b m : Bool) (a x : ℕ) → (m ≡ false → x ≡ a) → (if b then x else a) ≡ (if m && b then x else a)
by_tests true true a x same = refl
by_tests true false a x same = same refl
by_tests false true a x same = refl
by_tests false false a x same = refl

later : (r n : ℕ) (b : Bool) → (not (r + 2 == 0) && (nat_lt (r + 1) n && b)) ≡ (nat_lt (r + 1) n && b)
later r n b = grind (arith, nat_tests)

module _ (l : LeagueData) (g : Games) (rr : IsDoubleRoundRobin g) (i j : ℕ) (rounds : ℕ → Bool)
    (first_out : rounds (round_of g i j) ≡ false) (second_out : rounds (round_of g j i) ≡ false) (host r : ℕ)
    (of_host : is_either i j host ≡ true) (in_host : host < g.teams) (in_r : r < round_count g.teams)
    (home : is_home g host r ≡ true) (there : rounds r ≡ true) where
  abbrev guest : ℕ
  guest = (cell g host r).opponent

  abbrev stop_at : ℕ → ℕ
  stop_at k = get_or (tour g guest) k 0

  neither : is_either i j guest ≡ false
  neither = meets_neither g rr i j rounds first_out second_out host r of_host in_host in_r there

  at_host : stop_at (r + 1) ≡ host
  unfolding place is_home
  at_host =
      tour_at_round g guest r in_r ∙
      ap (λ b. if b then guest else (cell g guest r).opponent) (side_of_opponent g rr host r in_host in_r ∙ ap not home) ∙
      (IsPairing-opponents g rr r in_r).partners.back host in_host

  delta_at : (k : ℕ) → stop_predicted g i j rounds guest k ≡
      (if is_either i j (stop_at k) && in_rounds g rounds k then exchanged i j (stop_at k) else stop_at k)
  unfolding stop_predicted
  delta_at k =
      ap (λ u. if in_rounds g rounds k then exchanged i j (get_or (tour g u) k 0) else stop_at k) (unmoved i j guest neither) ∙
      by_tests (in_rounds g rounds k) (is_either i j (stop_at k)) (stop_at k) (exchanged i j (stop_at k))
      (unmoved i j (stop_at k))

  delta_host : stop_predicted g i j rounds guest (r + 1) ≡ exchanged i j host
  unfolding stop_predicted
  delta_host =
      let back : r + 1 - 1 ≡ r = omega arith in
      cond-true _ _ _ (at_round (r + 1) (round_count g.teams) (rounds (r + 1 - 1)) (omega arith) (omega arith) ∙
      ap rounds back ∙ there) ∙
      ap (λ u. exchanged i j (get_or (tour g u) (r + 1) 0)) (unmoved i j guest neither) ∙ ap (exchanged i j) at_host

  two_on : r + 1 + 1 ≡ r + 2
  two_on = omega arith

  followed : (is_either i j (stop_at (r + 2)) && in_rounds g rounds (r + 2)) ≡
      (nat_lt (r + 1) (round_count g.teams) && with_guests g (is_either i j) rounds guest (r + 1))
  followed =
      let back : r + 2 - 1 ≡ r + 1 = omega arith in
      ap (λ k. is_either i j (stop_at (r + 2)) && (not (r + 2 == 0) && (nat_lt k (round_count g.teams) && rounds k))) back ∙
      ap (λ b. is_either i j (stop_at (r + 2)) && b) (later r (round_count g.teams) (rounds (r + 1))) ∙
      ap (λ k. is_either i j (stop_at k) && (nat_lt (r + 1) (round_count g.teams) && rounds (r + 1))) (sym two_on) ∙
      followed_by_next g (is_either i j) rounds guest (r + 1) neither

  pub term_ends : (f : ℕ → ℕ → ℕ) → (is_either i j (stop_at (r + 2)) && in_rounds g rounds (r + 2)) ≡ true →
      guest_terms f g (is_either i j) rounds host r ≡ f guest r
  term_ends f visited =
      cond-false _ _ _ neither ∙ ap (λ x. f guest r + x) (cond-true _ _ _ (sym followed ∙ visited)) ∙ and_no_more (f guest r)
    where
      and_no_more : (x : ℕ) → x + 0 ≡ x
      and_no_more x = omega arith

  pub term_goes_on : (f : ℕ → ℕ → ℕ) → (is_either i j (stop_at (r + 2)) && in_rounds g rounds (r + 2)) ≡ false →
      guest_terms f g (is_either i j) rounds host r ≡ f guest r + f guest (r + 1)
  term_goes_on f goes_on =
      cond-false _ _ _ neither ∙ ap (λ x. f guest r + x) (cond-false _ _ _ (sym followed ∙ goes_on))

  pub arriving_now : leg l g guest r ≡ distance l (stop_at r) host
  unfolding leg
  arriving_now = ap (distance l (stop_at r)) at_host

  pub arriving_delta : leg_predicted l g i j rounds guest r ≡
      distance l (if is_either i j (stop_at r) && in_rounds g rounds r then exchanged i j (stop_at r) else stop_at r)
      (exchanged i j host)
  arriving_delta = ap₂ (distance l) (delta_at r) delta_host

  pub leaving_now : leg l g guest (r + 1) ≡ distance l host (stop_at (r + 2))
  unfolding leg
  leaving_now = ap₂ (distance l) at_host (ap stop_at two_on)

  pub leaving_delta : (is_either i j (stop_at (r + 2)) && in_rounds g rounds (r + 2)) ≡ false →
      leg_predicted l g i j rounds guest (r + 1) ≡ distance l (exchanged i j host) (stop_at (r + 2))
  leaving_delta goes_on =
      ap₂ (distance l) delta_host (ap (stop_predicted g i j rounds guest) two_on ∙ delta_at (r + 2) ∙ cond-false _ _ _ goes_on)

  -- it is there in no other round, so of the two hosts at most the other is its place before and after

  apart : guest ≢ host
  apart = (IsPairing-opponents g rr r in_r).apart host in_host

  in_guest : guest < g.teams
  in_guest = (IsPairing-opponents g rr r in_r).partners.in_range host in_host

  visited_at : (q o : ℕ) (at_home : Bool) → IsCell g guest q (record { opponent = o; home = at_home }) →
      (if at_home then guest else o) ≡ host → round_of g host guest ≡ q
  visited_at q o true is there = absurd (apart there)
  visited_at q o false is there = ap (λ x. round_of g x guest) (sym there) ∙ is.in_round

  visited_here : round_of g host guest ≡ r
  unfolding is_home
  visited_here = by_side guest (cell g host r).home (is_cell g rr host r in_host in_r) home
    where
      by_side : (o : ℕ) (at_home : Bool) → IsCell g host r (record { opponent = o; home = at_home }) → at_home ≡ true →
          round_of g host o ≡ r
      by_side o true is e = is.in_round
      by_side o false is e = absurd (false≢true e)

  place_once : (q : ℕ) → q < round_count g.teams → q ≢ r → place g guest q ≢ host
  unfolding place
  place_once q in_q other there =
      other (sym (visited_at q (cell g guest q).opponent (cell g guest q).home (is_cell g rr guest q in_guest in_q) there) ∙ visited_here)

  pub not_before : stop_at r ≢ host
  not_before there = elim (cases_eq r 0) [
    | inl first ↦ apart (sym (ap stop_at first) ∙ there)
    | inr later_on ↦
        let next : r ≡ (r - 1) + 1 = omega arith in
        place_once (r - 1) (omega arith) (λ e. omega arith)
        (sym (ap stop_at next ∙ tour_at_round g guest (r - 1) (omega arith)) ∙ there)
  ]

  pub not_after : stop_at (r + 2) ≢ host
  not_after there = elim (cases_lt (r + 1) (round_count g.teams)) [
    | inl more ↦
        place_once (r + 1) more (λ e. omega arith)
        (sym (ap stop_at (sym two_on) ∙ tour_at_round g guest (r + 1) more) ∙ there)
    | inr end ↦
        let last : r + 2 ≡ round_count g.teams + 1 = omega arith in
        apart (sym (ap stop_at last ∙ tour_at_end g guest) ∙ there)
  ]

  -- of a place that isn't the host's own
  module _ (x other : ℕ) (other_is : other ≡ exchanged i j host) (not_host : x ≢ host) where
    either_other : is_either i j x ≡ (x == other)
    either_other = elim (or_cases (host == i) (host == j) of_host) [
      | inl is_i ↦
          let first : host ≡ i = eqb-true host i is_i in
          let second : other ≡ j = other_is ∙ ap (exchanged i j) first ∙ exchanged_first i j in
          ap (λ b. b || x == j) (ne_eqb x i (λ e. not_host (e ∙ sym first))) ∙ ap (λ y. x == y) (sym second)
      | inr is_j ↦
          let first : host ≡ j = eqb-true host j is_j in
          let second : other ≡ i = other_is ∙ ap (exchanged i j) first ∙ exchanged_second i j in
          ap (λ b. x == i || b) (ne_eqb x j (λ e. not_host (e ∙ sym first))) ∙ or_none (x == i) ∙
          ap (λ y. x == y) (sym second)
    ]
      where
        or_none : (b : Bool) → (b || false) ≡ b
        or_none true = refl
        or_none false = refl

    moved : (is : Bool) → (x == other) ≡ is → (at : Bool) →
        (if is && at then exchanged i j x else x) ≡ (if is && at then host else x)
    moved false e at = refl
    moved true e false = refl
    moved true e true =
        ap (exchanged i j) (eqb-true x other e ∙ other_is) ∙ exchanged_exchanged i j host

    pub other_delta : (at : Bool) → (if x == other && at then host else x) ≡ (if is_either i j x && at then exchanged i j x else x)
    other_delta at =
        sym (ap (λ b. if b && at then exchanged i j x else x) either_other ∙ moved (x == other) refl at)

  -- by the places that the walk reads
  module _ (from to from_predicted other : ℕ) (from_is : from ≡ stop_at r) (to_is : to ≡ stop_at (r + 2))
      (delta_is : from_predicted ≡ (if from == other && in_rounds g rounds r then host else from))
      (other_is : other ≡ exchanged i j host) where
    on : (is : Bool) → (to == other && in_rounds g rounds (r + 2)) ≡ is →
        (is_either i j (stop_at (r + 2)) && in_rounds g rounds (r + 2)) ≡ is
    on is e =
        ap (λ b. b && in_rounds g rounds (r + 2))
        (either_other (stop_at (r + 2)) other other_is not_after ∙ ap (λ x. x == other) (sym to_is)) ∙ e

    predicted_place : from_predicted ≡ (if is_either i j from && in_rounds g rounds r then exchanged i j from else from)
    predicted_place =
        delta_is ∙ other_delta from other other_is (λ e. not_before (sym from_is ∙ e)) (in_rounds g rounds r)

    from_now : distance l from host ≡ leg l g guest r
    from_now = ap (λ x. distance l x host) from_is ∙ sym arriving_now

    from_after : distance l from_predicted other ≡ leg_predicted l g i j rounds guest r
    from_after =
        ap₂ (distance l)
        (predicted_place ∙ ap (λ x. if is_either i j x && in_rounds g rounds r then exchanged i j x else x) from_is) other_is ∙
        sym arriving_delta

    pub ends_now : (to == other && in_rounds g rounds (r + 2)) ≡ true →
        distance l from host ≡ guest_terms (leg l g) g (is_either i j) rounds host r
    ends_now visited = from_now ∙ sym (term_ends (leg l g) (on true visited))

    pub ends_delta : (to == other && in_rounds g rounds (r + 2)) ≡ true →
        distance l from_predicted other ≡ guest_terms (leg_predicted l g i j rounds) g (is_either i j) rounds host r
    ends_delta visited = from_after ∙ sym (term_ends (leg_predicted l g i j rounds) (on true visited))

    pub goes_on_now : (to == other && in_rounds g rounds (r + 2)) ≡ false →
        distance l from host + distance l host to ≡ guest_terms (leg l g) g (is_either i j) rounds host r
    goes_on_now out =
        ap₂ (λ x y. x + y) from_now (ap (distance l host) to_is ∙ sym leaving_now) ∙
        sym (term_goes_on (leg l g) (on false out))

    pub goes_on_delta : (to == other && in_rounds g rounds (r + 2)) ≡ false →
        distance l from_predicted other + distance l other to ≡
        guest_terms (leg_predicted l g i j rounds) g (is_either i j) rounds host r
    goes_on_delta out =
        ap₂ (λ x y. x + y) from_after (ap₂ (distance l) other_is to_is ∙ sym (leaving_delta (on false out))) ∙
        sym (term_goes_on (leg_predicted l g i j rounds) (on false out))

-- the ways that the walk adds up around a visit are its legs, where the next visit follows and where it doesn't
pub record AreVisitLegs (x : TeamExchange) (host r from to from_predicted other : ℕ) : Type 0 where
  pub ends_before :
      (to == other && in_rounds x.schedule.now (has x.rounds) (r + 2)) ≡ true →
      distance x.league.now from host ≡ around_visit x (leg_before x) host r
  pub ends_after :
      (to == other && in_rounds x.schedule.now (has x.rounds) (r + 2)) ≡ true →
      distance x.league.now from_predicted other ≡ around_visit x (leg_after x) host r
  pub on_before :
      (to == other && in_rounds x.schedule.now (has x.rounds) (r + 2)) ≡ false →
      distance x.league.now from host + distance x.league.now host to ≡ around_visit x (leg_before x) host r
  pub on_after :
      (to == other && in_rounds x.schedule.now (has x.rounds) (r + 2)) ≡ false →
      distance x.league.now from_predicted other + distance x.league.now other to ≡ around_visit x (leg_after x) host r

module _ (x : TeamExchange) (rr : IsDoubleRoundRobin x.schedule.now) (host r : ℕ) (of_host : is_either x.i x.j host ≡ true)
    (in_host : host < x.schedule.now.teams) (in_r : r < round_count x.schedule.now.teams)
    (home : is_home x.schedule.now host r ≡ true) (there : has x.rounds r ≡ true) (guest_at from to from_predicted other : ℕ)
    (guest_is : guest_at ≡ (cell x.schedule.now host r).opponent) (from_is : from ≡ get_or (tour x.schedule.now guest_at) r 0)
    (to_is : to ≡ get_or (tour x.schedule.now guest_at) (r + 2) 0)
    (delta_is : from_predicted ≡ (if from == other && in_rounds x.schedule.now (has x.rounds) r then host else from))
    (other_is : other ≡ exchanged x.i x.j host) where
  from_stop : from ≡ get_or (tour x.schedule.now (cell x.schedule.now host r).opponent) r 0
  from_stop = from_is ∙ ap (λ u. get_or (tour x.schedule.now u) r 0) guest_is

  to_stop : to ≡ get_or (tour x.schedule.now (cell x.schedule.now host r).opponent) (r + 2) 0
  to_stop = to_is ∙ ap (λ u. get_or (tour x.schedule.now u) (r + 2) 0) guest_is

  pub visit_legs : AreVisitLegs x host r from to from_predicted other
  visit_legs = record {
    ends_before =
        ends_now x.league.now x.schedule.now rr x.i x.j (has x.rounds) x.first_out x.second_out host r of_host in_host in_r
        home there from to from_predicted other from_stop to_stop delta_is other_is;
    ends_after =
        ends_delta x.league.now x.schedule.now rr x.i x.j (has x.rounds) x.first_out x.second_out host r of_host in_host in_r
        home there from to from_predicted other from_stop to_stop delta_is other_is;
    on_before =
        goes_on_now x.league.now x.schedule.now rr x.i x.j (has x.rounds) x.first_out x.second_out host r of_host in_host in_r
        home there from to from_predicted other from_stop to_stop delta_is other_is;
    on_after =
        goes_on_delta x.league.now x.schedule.now rr x.i x.j (has x.rounds) x.first_out x.second_out host r of_host in_host in_r
        home there from to from_predicted other from_stop to_stop delta_is other_is;
  }
