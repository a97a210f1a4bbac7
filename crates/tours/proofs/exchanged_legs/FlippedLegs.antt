-- The legs of a team that flips between home and away: one of the two places is its own home.
use Rattle.std.proofs.Common.{◌≡◌, ◌≢◌, ℕ, ◌+◌, ◌<◌, Bool, true, false, not, ◌&&◌, inl, inr, get_or, refl, sym, ◌∙◌, ap, ap₂, arith}
use Rattle.std.specs.Prelude.{◌==◌, if◌then◌else◌}
use Rattle.std.specs.Bool.{beq}
use Rattle.std.proofs.lemmas.Bool.{cases_Bool, cases_lt, and_parts, cond-true, cond-false, eq-eqb, ne_eqb, true≢false, false≢true}
use Rattle.league.specs.League.{LeagueData, distance}
use Rattle.league.specs.Sets.{has, IsBelow}
use Rattle.league.proofs.ForCallers.{has_beyond}
use Rattle.fixtures.specs.Games.{Games, round_of, round_count, cell, place, is_home, IsDoubleRoundRobin}
use Rattle.fixtures.specs.Edits.{exchanged}
use Rattle.fixtures.specs.within.Edits.{is_either}
use Rattle.fixtures.specs.Changes.{flips}
use Rattle.tours.specs.Tours.{tour, leg}
use Rattle.tours.specs.within.Delta.{leg_flipped, AreFlips, IsFlip}
use Rattle.tours.proofs.stops.Stops.{tour_at_round}
use Rattle.tours.proofs.meetings.Opponents.{opponent_in, IsPairing-opponents}
use Rattle.tours.proofs.exchanged_legs.TeamsDelta.{unmoved, meets_neither}

module _ (l : LeagueData) (symmetric : (a b : ℕ) → distance l a b ≡ distance l b a) where
  -- the way from the own home to the place that isn't it, where f moves the home alone
  by_sides : (f : ℕ → ℕ) (t o o' : ℕ) (home home' : Bool) → not (beq home home') ≡ true → o ≢ t → f o ≡ o → f o' ≡ o' →
      distance l (f t)
      (if (if home then t else o) == t then (if home' then t else o') else (if home then t else o)) ≡
      distance l (f (if home then t else o)) (f (if home' then t else o'))
  by_sides f t o o' true true flipping apart stays stays' = absurd (false≢true flipping)
  by_sides f t o o' true false flipping apart stays stays' =
      ap (distance l (f t)) (cond-true (t == t) o' t (eq-eqb t t refl) ∙ sym stays')
  by_sides f t o o' false true flipping apart stays stays' =
      ap (distance l (f t)) (cond-false (o == t) t o (ne_eqb o t apart) ∙ sym stays) ∙ symmetric (f t) (f o)
  by_sides f t o o' false false flipping apart stays stays' = absurd (false≢true flipping)

  module _ (g : Games) (rr : IsDoubleRoundRobin g) (i j t s : ℕ) (in_t : t < g.teams) (flip : IsFlip g i j t s)
      (from to away : ℕ) (from_is : from ≡ get_or (tour g t) (s + 1) 0) (to_is : to ≡ get_or (tour g t) (s + 2) 0)
      (away_is : away ≡ (if from == t then to else from)) where
    two_on : s + 2 ≡ s + 1 + 1
    two_on = omega arith

    in_s : s < round_count g.teams
    in_s = omega (arith, flip.next)

    here : from ≡ place g t s
    here = from_is ∙ tour_at_round g t s in_s

    there : to ≡ place g t (s + 1)
    there = to_is ∙ ap (λ k. get_or (tour g t) k 0) two_on ∙ tour_at_round g t (s + 1) flip.next

    way_flipped : (f : ℕ → ℕ) → f (opponent_in g s t) ≡ opponent_in g s t →
        f (opponent_in g (s + 1) t) ≡ opponent_in g (s + 1) t →
        distance l (f t) away ≡ distance l (f (place g t s)) (f (place g t (s + 1)))
    unfolding place is_home flips
    way_flipped f stays stays' =
        ap (distance l (f t)) (away_is ∙ ap₂ (λ x y. if x == t then y else x) here there) ∙
        by_sides f t (opponent_in g s t) (opponent_in g (s + 1) t) (cell g t s).home (cell g t (s + 1)).home flip.flipping
        ((IsPairing-opponents g rr s in_s).apart t in_t) stays stays'

    pub flipped_now : distance l t away ≡ leg l g t (s + 1)
    unfolding leg
    flipped_now =
        way_flipped (λ x. x) refl refl ∙
        sym (ap₂ (distance l) (tour_at_round g t s in_s) (tour_at_round g t (s + 1) flip.next))

    pub flipped_delta : (other : ℕ) → other ≡ exchanged i j t → distance l other away ≡ leg_flipped l g i j t (s + 1)
    flipped_delta other other_is =
        ap (λ x. distance l x away) other_is ∙
        way_flipped (exchanged i j) (unmoved i j (opponent_in g s t) flip.here)
        (unmoved i j (opponent_in g (s + 1) t) flip.there) ∙
        sym (ap₂ (λ x y. distance l (exchanged i j x) (exchanged i j y)) (tour_at_round g t s in_s)
        (tour_at_round g t (s + 1) flip.next))

-- the flips of a walk

pub in_below : (n set k : ℕ) → IsBelow n set → has set k ≡ true → k < n
in_below n set k below is = elim (cases_lt k n) [
  | inl less ↦ less
  | inr beyond ↦ absurd (true≢false (sym is ∙ has_beyond n set k below (omega arith)))
]

pub is_flip : (g : Games) (rr : IsDoubleRoundRobin g) (i j t inner set rounds : ℕ) → is_either i j t ≡ true → t < g.teams →
    has rounds (round_of g i j) ≡ false → has rounds (round_of g j i) ≡ false → IsBelow (round_count g.teams) rounds →
    ((s : ℕ) → has inner s ≡ (has rounds s && has rounds (s + 1))) → AreFlips g inner t set → (s : ℕ) →
    has set s ≡ true → IsFlip g i j t s
is_flip g rr i j t inner set rounds of_t in_t first_out second_out below is_inner are s is = elim (cases_Bool (has inner s)) [
  | inr out ↦ absurd (true≢false (sym is ∙ are.inside s out))
  | inl both ↦
      let parts = and_parts (has rounds s) (has rounds (s + 1)) (sym (is_inner s) ∙ both) in
      let in_next : s + 1 < round_count g.teams = in_below (round_count g.teams) rounds (s + 1) below parts.1 in
      record {
        next = in_next;
        flipping = sym (are.flipping s in_next both) ∙ is;
        here = meets_neither g rr i j (has rounds) first_out second_out t s of_t in_t (omega arith) parts.0;
        there = meets_neither g rr i j (has rounds) first_out second_out t (s + 1) of_t in_t in_next parts.1;
      }
]
