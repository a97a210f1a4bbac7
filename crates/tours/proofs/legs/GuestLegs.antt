-- The travel around some teams: their own legs, and those of their guests.
use Rattle.std.proofs.Common.{◌≡◌, ◌≢◌, ℕ, zero, suc, ◌+◌, ◌-◌, ◌<◌, Bool, true, false, not, ◌&&◌, ◌||◌, refl, sym, ◌∙◌, ap, arith, add-one}
use Rattle.std.specs.Prelude.{◌==◌, nat_lt, if◌then◌else◌}
use Rattle.std.proofs.lemmas.Bool.{lt-ltb, ltb-true, not-true, eqb-false}
use Rattle.std.proofs.lemmas.Bool.Decides.{nat_tests}
use Rattle.league.specs.Sums.{sum_below, sum_where}
use Rattle.league.proofs.ForCallers.{sum_below_same, sum_below_swap, sum_below_more, sum_where_same, sum_where_split}
use Rattle.league.specs.Sets.{has}
use Rattle.fixtures.specs.Games.{Games, round_count, cell, is_home, place, IsDoubleRoundRobin}
use Rattle.tours.specs.Tours.{leg_count}
use Rattle.tours.specs.Parts.{touches_leg}
use Rattle.tours.specs.within.Walked.{with_guests, part_of, there_and_on, guest_terms}
use Rattle.tours.proofs.legs.TravelWalk.{inside, outside, sum_where_swap}
use Rattle.tours.proofs.meetings.Partners.{sum_below_partners}
use Rattle.tours.proofs.meetings.Opponents.{opponent_in, side_of_opponent, IsPairing-opponents}

-- The terms next to marked places: those before a mark or after it. Counted at the marks, each with its own term and,
-- unless the next place is marked too, the next.

abbrev next_to : (ℕ → Bool) → ℕ → Bool
next_to mark k = (not (k == 0) && mark (k - 1)) || mark k

abbrev at_marks : (ℕ → Bool) → (ℕ → ℕ) → ℕ → ℕ
at_marks mark f m = sum_where m mark (λ r. f r + (if mark (r + 1) then 0 else f (r + 1)))

-- the term after the last mark, not yet come to
abbrev still_to_come : (ℕ → Bool) → (ℕ → ℕ) → ℕ → ℕ
still_to_come mark f m = if (not (m == 0) && mark (m - 1)) && not (mark m) then f m else 0

one_place : (a b fm fn : ℕ) (before now next : Bool) → b ≡ a + (if before && not now then fm else 0) →
    b + (if now then fm + (if next then 0 else fn) else 0) ≡ (a + (if before || now then fm else 0)) + (if now && not next then fn else 0)
one_place a b fm fn true true true so_far = omega arith
one_place a b fm fn true true false so_far = omega arith
one_place a b fm fn true false next so_far = omega arith
one_place a b fm fn false true true so_far = omega arith
one_place a b fm fn false true false so_far = omega arith
one_place a b fm fn false false next so_far = omega arith

not_first : (m : ℕ) → (suc m == 0) ≡ false
not_first m = grind (arith, nat_tests)

walked : (mark : ℕ → Bool) (f : ℕ → ℕ) (m : ℕ) → at_marks mark f m ≡ sum_where m (next_to mark) f + still_to_come mark f m
unfolding sum_below
walked mark f zero = refl
walked mark f (suc m) =
    let before : suc m - 1 ≡ m = omega arith in
    rw (before, not_first m, add-one m) (one_place _ _ (f m) (f (suc m)) (not (m == 0) && mark (m - 1)) (mark m)
    (mark (suc m)) (walked mark f m))

-- up to a place that isn't marked
all_walked : (mark : ℕ → Bool) (f : ℕ → ℕ) (m : ℕ) → mark m ≡ false → at_marks mark f m ≡ sum_where (m + 1) (next_to mark) f
all_walked mark f m out =
    walked mark f m ∙ last ∙ sym (sum_below_more m (λ k. if next_to mark k then f k else 0))
  where
    last : sum_where m (next_to mark) f + still_to_come mark f m ≡ sum_where m (next_to mark) f + (if next_to mark m then f m else 0)
    last = ap (λ b. sum_where m (next_to mark) f + (if (not (m == 0) && mark (m - 1)) && not b then f m else 0)) out ∙
        ends (not (m == 0) && mark (m - 1)) ∙
        ap (λ b. sum_where m (next_to mark) f + (if (not (m == 0) && mark (m - 1)) || b then f m else 0)) (sym out)
      where
        ends : (b : Bool) → sum_where m (next_to mark) f + (if b && not false then f m else 0) ≡
            sum_where m (next_to mark) f + (if b || false then f m else 0)
        ends true = refl
        ends false = refl

-- the legs of a team that touch its rounds, counted at these rounds

abbrev in_season : Games → (ℕ → Bool) → ℕ → Bool
in_season g set k = nat_lt k (round_count g.teams) && set k

touched_in_season : (k rounds : ℕ) (before at : Bool) → k < rounds + 1 →
    ((not (k == 0) && before) || (nat_lt k rounds && at)) ≡ ((not (k == 0) && (nat_lt (k - 1) rounds && before)) || (nat_lt k rounds && at))
touched_in_season k rounds before at in_k = grind (arith, nat_tests)

out_of_season : (rounds : ℕ) (at : Bool) → (nat_lt rounds rounds && at) ≡ false
out_of_season rounds at = grind (arith, nat_tests)

at_season : (k rounds : ℕ) (at : Bool) → k < rounds → (nat_lt k rounds && at) ≡ at
at_season k rounds at in_k = grind (arith, nat_tests)

part_by_rounds : (f : ℕ → ℕ → ℕ) (g : Games) (set : ℕ → Bool) (t : ℕ) →
    part_of f g set t ≡ sum_where (round_count g.teams) set (there_and_on f g set t)
unfolding touches_leg
part_by_rounds f g set t =
    sum_where_same (leg_count g) (touches_leg g set) (next_to (in_season g set)) (f t) (f t)
    (λ k in_k. touched_in_season k (round_count g.teams) (set (k - 1)) (set k) in_k) (λ k in_k touched. refl) ∙
    sym (all_walked (in_season g set) (f t) (round_count g.teams) (out_of_season (round_count g.teams) (set (round_count g.teams)))) ∙
    sum_where_same (round_count g.teams) (in_season g set) set (there_and_on f g set t) (there_and_on f g set t)
    (λ k in_k. at_season k (round_count g.teams) (set k) in_k) (λ k in_k touched. refl)

-- the teams' own legs, and those of the others

where_guarded : (guard b b' : Bool) → (guard ≡ true → b' ≡ b) → (guard && b') ≡ (guard && b)
where_guarded true b b' same = same refl
where_guarded false b b' same = refl

-- which legs are touched depends on rounds of the season alone
touches_leg_of : (g : Games) (set set' : ℕ → Bool) (r : ℕ) → r < leg_count g → ((k : ℕ) → k < round_count g.teams → set' k ≡ set k) →
    touches_leg g set' r ≡ touches_leg g set r
unfolding touches_leg
touches_leg_of g set set' r in_r same =
    ap (λ b. b || (nat_lt r (round_count g.teams) && set' r)) (where_guarded (not (r == 0)) (set (r - 1)) (set' (r - 1)) before) ∙
    ap (λ b. (not (r == 0) && set (r - 1)) || b)
    (where_guarded (nat_lt r (round_count g.teams)) (set r) (set' r) (λ round. same r (ltb-true r (round_count g.teams) round)))
  where
    before : not (r == 0) ≡ true → set' (r - 1) ≡ set (r - 1)
    before later = let some : r ≢ 0 = eqb-false r 0 (not-true (r == 0) later) in same (r - 1) (omega arith)

own_rounds : (mine round at : Bool) → mine ≡ true → (round && (mine || at)) ≡ round
own_rounds mine true at is = rw is refl
own_rounds mine false at is = refl

own_part : (f : ℕ → ℕ → ℕ) (g : Games) (teams rounds : ℕ → Bool) (t : ℕ) → teams t ≡ true →
    part_of f g (with_guests g teams rounds t) t ≡ part_of f g rounds t
unfolding with_guests
own_part f g teams rounds t mine =
    sum_where_same (leg_count g) (touches_leg g (with_guests g teams rounds t)) (touches_leg g rounds) (f t) (f t)
    (λ r in_r. touches_leg_of g rounds (with_guests g teams rounds t) r in_r
    (λ k in_k. own_rounds (teams t) (rounds k) (teams (place g t k)) mine))
    (λ r in_r touched. refl)

-- what a guest of some teams travels around a game there
abbrev guest_legs : (ℕ → ℕ → ℕ) → Games → (ℕ → Bool) → (ℕ → Bool) → ℕ → ℕ → ℕ
guest_legs f g teams rounds r t = there_and_on f g (with_guests g teams rounds t) t r

theirs_in_round : (mine round at : Bool) (x : ℕ) →
    (if round && (mine || at) then (if not mine then x else 0) else 0) ≡ (if round then (if not mine && at then x else 0) else 0)
theirs_in_round true true at x = refl
theirs_in_round true false at x = refl
theirs_in_round false true at x = refl
theirs_in_round false false at x = refl

others_part : (f : ℕ → ℕ → ℕ) (g : Games) (teams rounds : ℕ → Bool) →
    sum_where g.teams (λ t. not (teams t)) (λ t. part_of f g (with_guests g teams rounds t) t) ≡
    sum_where (round_count g.teams) rounds (λ r. sum_where g.teams (λ t. not (teams t) && teams (place g t r))
    (guest_legs f g teams rounds r))
unfolding with_guests
others_part f g teams rounds =
    sum_below_same g.teams (λ t. if not (teams t) then part_of f g (with_guests g teams rounds t) t else 0)
    (λ t. sum_below (round_count g.teams)
    (λ r. if with_guests g teams rounds t r then (if not (teams t) then guest_legs f g teams rounds r t else 0) else 0))
    (λ t in_t. ap (λ x. if not (teams t) then x else 0) (part_by_rounds f g (with_guests g teams rounds t) t) ∙
    inside (not (teams t)) (round_count g.teams) (with_guests g teams rounds t) (λ r. guest_legs f g teams rounds r t)) ∙
    sum_below_swap g.teams (round_count g.teams)
    (λ t r. if with_guests g teams rounds t r then (if not (teams t) then guest_legs f g teams rounds r t else 0) else 0) ∙
    sum_below_same (round_count g.teams)
    (λ r. sum_below g.teams
    (λ t. if with_guests g teams rounds t r then (if not (teams t) then guest_legs f g teams rounds r t else 0) else 0))
    (λ r. if rounds r then sum_where g.teams (λ t. not (teams t) && teams (place g t r)) (guest_legs f g teams rounds r) else 0)
    (λ r in_r. sum_below_same g.teams
    (λ t. if with_guests g teams rounds t r then (if not (teams t) then guest_legs f g teams rounds r t else 0) else 0)
    (λ t. if rounds r then (if not (teams t) && teams (place g t r) then guest_legs f g teams rounds r t else 0) else 0)
    (λ t in_t. theirs_in_round (teams t) (rounds r) (teams (place g t r)) (guest_legs f g teams rounds r t)) ∙
    outside (rounds r) g.teams (λ t. if not (teams t) && teams (place g t r) then guest_legs f g teams rounds r t else 0))

-- the guests in a round, each found from its host

abbrev as_guest : Games → (ℕ → Bool) → (ℕ → ℕ) → ℕ → ℕ → ℕ
as_guest g teams f r t = if not (cell g t r).home && (not (teams t) && teams (opponent_in g r t)) then f t else 0

away_there : (home mine at : Bool) (x : ℕ) (teams : ℕ → Bool) (t o : ℕ) → mine ≡ teams t → at ≡ teams o →
    (if not mine && teams (if home then t else o) then x else 0) ≡ (if not home && (not mine && at) then x else 0)
away_there true true at x teams t o is_mine is_at = refl
away_there true false at x teams t o is_mine is_at = rw (← is_mine) refl
away_there false true at x teams t o is_mine is_at = refl
away_there false false at x teams t o is_mine is_at = rw is_at refl

hosted : (home mine at : Bool) (x : ℕ) →
    (if not (not home) && (not at && mine) then x else 0) ≡ (if mine then (if home && not at then x else 0) else 0)
hosted true true true x = refl
hosted true true false x = refl
hosted true false true x = refl
hosted true false false x = refl
hosted false true at x = refl
hosted false false at x = refl

guests_by_host : (g : Games) (teams : ℕ → Bool) (f : ℕ → ℕ) (r : ℕ) → IsDoubleRoundRobin g → r < round_count g.teams →
    sum_where g.teams (λ t. not (teams t) && teams (place g t r)) f ≡
    sum_where g.teams teams (λ t. if (cell g t r).home && not (teams (opponent_in g r t)) then f (opponent_in g r t) else 0)
unfolding place
guests_by_host g teams f r rr in_r =
    sum_below_same g.teams (λ t. if not (teams t) && teams (place g t r) then f t else 0) (as_guest g teams f r)
    (λ t in_t. away_there (cell g t r).home (teams t) (teams (opponent_in g r t)) (f t) teams t (opponent_in g r t) refl refl) ∙
    sym (sum_below_partners g.teams (opponent_in g r) (as_guest g teams f r) (IsPairing-opponents g rr r in_r).partners) ∙
    sum_below_same g.teams (λ t. as_guest g teams f r (opponent_in g r t))
    (λ t. if teams t then (if (cell g t r).home && not (teams (opponent_in g r t)) then f (opponent_in g r t) else 0) else 0) each
  where
    each : (t : ℕ) → t < g.teams → as_guest g teams f r (opponent_in g r t) ≡
        (if teams t then (if (cell g t r).home && not (teams (opponent_in g r t)) then f (opponent_in g r t) else 0) else 0)
    each t in_t =
        ap
        (λ b. if not b && (not (teams (opponent_in g r t)) && teams (opponent_in g r (opponent_in g r t)))
        then f (opponent_in g r t) else 0)
        (side_of_opponent g rr t r in_t in_r) ∙
        ap (λ u. if not (not (cell g t r).home) && (not (teams (opponent_in g r t)) && teams u) then f (opponent_in g r t) else 0)
        ((IsPairing-opponents g rr r in_r).partners.back t in_t) ∙
        hosted (cell g t r).home (teams t) (teams (opponent_in g r t)) (f (opponent_in g r t))

-- host by host, in its rounds at home

at_home : (round home own : Bool) (x : ℕ) →
    (if round then (if home && not own then x else 0) else 0) ≡ (if round && home then (if own then 0 else x) else 0)
at_home true true true x = refl
at_home true true false x = refl
at_home true false own x = refl
at_home false home own x = refl

abbrev hosted_at : (ℕ → ℕ → ℕ) → Games → (ℕ → Bool) → (ℕ → Bool) → ℕ → ℕ → ℕ
hosted_at f g teams rounds r t =
    if (cell g t r).home && not (teams (opponent_in g r t)) then guest_legs f g teams rounds r (opponent_in g r t) else 0

guests_of_hosts : (f : ℕ → ℕ → ℕ) (g : Games) (teams rounds : ℕ → Bool) →
    sum_where (round_count g.teams) rounds (λ r. sum_where g.teams teams (hosted_at f g teams rounds r)) ≡
    sum_where g.teams teams (λ t. sum_where (round_count g.teams) (λ r. rounds r && is_home g t r) (guest_terms f g teams rounds t))
unfolding is_home
guests_of_hosts f g teams rounds =
    sum_where_swap (round_count g.teams) g.teams rounds teams (hosted_at f g teams rounds) ∙
    sum_where_same g.teams teams teams (λ t. sum_where (round_count g.teams) rounds (λ r. hosted_at f g teams rounds r t))
    (λ t. sum_where (round_count g.teams) (λ r. rounds r && (cell g t r).home) (guest_terms f g teams rounds t)) (λ t in_t. refl)
    (λ t in_t mine. sum_below_same (round_count g.teams) (λ r. if rounds r then hosted_at f g teams rounds r t else 0)
    (λ r. if rounds r && (cell g t r).home then guest_terms f g teams rounds t r else 0)
    (λ r in_r. at_home (rounds r) (cell g t r).home (teams (opponent_in g r t)) (guest_legs f g teams rounds r (opponent_in g r t))))

-- the rounds of a set at home
pub sum_of_visits : (g : Games) (f : ℕ → ℕ) (t home rounds visits : ℕ) →
    ((r : ℕ) → has home r ≡ (nat_lt r (round_count g.teams) && is_home g t r)) → ((r : ℕ) → has visits r ≡ (has home r && has rounds r)) →
    sum_where (round_count g.teams) (has visits) f ≡ sum_where (round_count g.teams) (λ r. has rounds r && is_home g t r) f
sum_of_visits g f t home rounds visits homes members =
    sum_where_same (round_count g.teams) (has visits) (λ r. has rounds r && is_home g t r) f f
    (λ r in_r. members r ∙ ap (λ b. b && has rounds r) (homes r ∙ ap (λ b. b && is_home g t r) (lt-ltb r (round_count g.teams) in_r)) ∙
    swapped (is_home g t r) (has rounds r))
    (λ r in_r passes. refl)
  where
    swapped : (a b : Bool) → (a && b) ≡ (b && a)
    swapped true true = refl
    swapped true false = refl
    swapped false true = refl
    swapped false false = refl

-- the legs of the teams of the first set, and of their guests, that touch a round of the second
abbrev pub around : (ℕ → ℕ → ℕ) → Games → (ℕ → Bool) → (ℕ → Bool) → ℕ
around f g teams rounds = sum_below g.teams (λ t. part_of f g (with_guests g teams rounds t) t)

pub around_walked : (f : ℕ → ℕ → ℕ) (g : Games) (teams rounds : ℕ → Bool) → IsDoubleRoundRobin g →
    around f g teams rounds ≡
    sum_where g.teams teams (part_of f g rounds) +
    sum_where g.teams teams (λ t. sum_where (round_count g.teams) (λ r. rounds r && is_home g t r) (guest_terms f g teams rounds t))
around_walked f g teams rounds rr =
    sym (sum_where_split g.teams teams (λ t. part_of f g (with_guests g teams rounds t) t)) ∙
    ap (λ x. x + sum_where g.teams (λ t. not (teams t)) (λ t. part_of f g (with_guests g teams rounds t) t))
    (sum_where_same g.teams teams teams (λ t. part_of f g (with_guests g teams rounds t) t) (part_of f g rounds)
    (λ t in_t. refl) (λ t in_t mine. own_part f g teams rounds t mine)) ∙
    ap (λ x. sum_where g.teams teams (part_of f g rounds) + x)
    (others_part f g teams rounds ∙
    sum_where_same (round_count g.teams) rounds rounds
    (λ r. sum_where g.teams (λ t. not (teams t) && teams (place g t r)) (guest_legs f g teams rounds r))
    (λ r. sum_where g.teams teams (hosted_at f g teams rounds r)) (λ r in_r. refl)
    (λ r in_r touched. guests_by_host g teams (guest_legs f g teams rounds r) r rr in_r) ∙
    guests_of_hosts f g teams rounds)
