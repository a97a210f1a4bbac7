-- The teams around main teams, found by the games of these.
use Rattle.std.proofs.Common.{◌≡◌, ℕ, ◌<◌, ◌&&◌, ◌||◌, ◌==◌, ◌⊎◌, not, nat_lt, Bool, true, false, refl, sym, ◌∙◌, ap, inl, inr, arith}
use Rattle.std.proofs.lemmas.Bool.{cases_eq, cases_lt, lt-ltb, and_parts, and_from, or_cases, or_left, or_right, false≢true}
use Rattle.league.specs.Sets.{has, IsBelow}
use Rattle.league.specs.within.Sets.{IsWithoutLowest}
use Rattle.league.proofs.ForCallers.{others_kept, has_empty, has_beyond, any_below_found}
use Rattle.fixtures.specs.declared.game.Cell.{Cell}
use Rattle.fixtures.specs.Games.{Games, round_count, round_of, cell, IsPair, IsCell, IsDoubleRoundRobin}
use Rattle.fixtures.proofs.ForCallers.{cell_is, is_cell, pair_swapped}
use Rattle.rules.specs.Parts.{is_guest, meet_in}
use Rattle.rules.proofs.rows.RowsByRounds.{same_when, any_one}

module _ (g : Games) (rr : IsDoubleRoundRobin g) (rounds : ℕ) where
  -- a team that meets another in one of the rounds has a game against it there
  meets_there : (t r : ℕ) → t < g.teams → r < round_count g.teams → has rounds r ≡ true →
      meet_in g (has rounds) t (cell g t r).opponent ≡ true
  unfolding meet_in
  meets_there t r in_t in_r here = by_home (cell g t r).opponent (cell g t r).home (is_cell g rr t r in_t in_r)
    where
      by_home : (o : ℕ) (home : Bool) → IsCell g t r (record { opponent = o; home = home }) →
          (has rounds (round_of g t o) || has rounds (round_of g o t)) ≡ true
      by_home o true is = or_left (has rounds (round_of g t o)) _ (ap (has rounds) is.in_round ∙ here)
      by_home o false is = or_right (has rounds (round_of g t o)) _ (ap (has rounds) is.in_round ∙ here)

  guest_where : (main t m r : ℕ) (home : Bool) → r < round_count g.teams → has rounds r ≡ true → has main m ≡ true →
      IsCell g t r (record { opponent = m; home = home }) → is_guest g (has main) (has rounds) t ≡ true
  unfolding is_guest
  guest_where main t m r home in_r here in_main is =
      any_below_found (round_count g.teams) (λ k. has rounds k && has main (cell g t k).opponent) r in_r
      (and_from (has rounds r) (has main (cell g t r).opponent) here
      (ap (λ (c : Cell). has main c.opponent) (cell_is g rr t r (record { opponent = m; home = home }) is) ∙ in_main))

  -- one that meets a main team in one of the rounds is a guest
  guest_of : (main t m : ℕ) → IsPair g.teams t m → has main m ≡ true → meet_in g (has rounds) t m ≡ true →
      is_guest g (has main) (has rounds) t ≡ true
  unfolding meet_in
  guest_of main t m pair in_main met = elim (or_cases (has rounds (round_of g t m)) (has rounds (round_of g m t)) met) [
    | inl here ↦
        guest_where main t m (round_of g t m) true (rr.in_range t m pair) here in_main (record { pair = pair; in_round = refl })
    | inr here ↦
        guest_where main t m (round_of g m t) false (rr.in_range m t (pair_swapped g.teams t m pair)) here in_main
        (record { pair = pair; in_round = refl })
  ]

-- a loop over main teams has found the teams around those that aren't left
pub record HasAround (g : Games) (main rounds all left around : ℕ) : Type 0 where
  pub below : IsBelow g.teams left
  pub within : (k : ℕ) → has left k ≡ true → has main k ≡ true
  pub main_in : (t : ℕ) → has main t ≡ true → has around t ≡ true
  pub only : (t : ℕ) → t < g.teams → has around t ≡ true → (has main t || is_guest g (has main) (has rounds) t) ≡ true
  pub found : (t r : ℕ) → t < g.teams → r < round_count g.teams → has rounds r ≡ true → has all (cell g t r).opponent ≡ true →
      has left (cell g t r).opponent ≡ false → has around t ≡ true

pub around_none : (g : Games) (main rounds whole left : ℕ) → IsBelow g.teams left →
    ((k : ℕ) → has left k ≡ (has whole k && has main k)) → HasAround g main rounds left left main
around_none g main rounds whole left below are = record {
  below = below;
  within = λ k here. (and_parts (has whole k) (has main k) (sym (are k) ∙ here)).1;
  main_in = λ t here. here;
  only = λ t in_t here. or_left (has main t) _ here;
  found = λ t r in_t in_r here there gone. absurd (false≢true (sym gone ∙ there));
}

pub around_more : (g : Games) (rr : IsDoubleRoundRobin g) (main rounds all left lowest rest around met new : ℕ) → lowest < g.teams →
    HasAround g main rounds all left around → IsWithoutLowest left lowest rest →
    ((t : ℕ) → IsPair g.teams t lowest → has met t ≡ meet_in g (has rounds) t lowest) →
    ((t : ℕ) → has new t ≡ (has around t || has met t)) → HasAround g main rounds all rest new
around_more g rr main rounds all left lowest rest around met new in_o so_far taken meets adds = record {
  below = omega (arith, so_far.below, taken.fewer);
  within = λ k here. so_far.within k (and_parts (has left k) (not (k == lowest)) (sym (taken.others k) ∙ here)).0;
  main_in = λ t here. adds t ∙ or_left (has around t) (has met t) (so_far.main_in t here);
  only = λ t in_t here. elim (or_cases (has around t) (has met t) (sym (adds t) ∙ here)) [
    | inl before ↦ so_far.only t in_t before
    | inr now ↦ elim (cases_eq t lowest) [
      | inl same ↦ or_left (has main t) _ (ap (has main) same ∙ so_far.within lowest taken.in_set)
      | inr other ↦
          let pair : IsPair g.teams t lowest = record { home_in = in_t; away_in = in_o; distinct = other } in
          or_right (has main t) _
          (guest_of g rr rounds main t lowest pair (so_far.within lowest taken.in_set) (sym (meets t pair) ∙ now))
    ]
  ];
  found = λ t r in_t in_r here there gone. elim (cases_eq (cell g t r).opponent lowest) [
    | inl same ↦
        let pair : IsPair g.teams t lowest = rw same at (is_cell g rr t r in_t in_r).pair in
        adds t ∙
        or_right (has around t) (has met t)
        (meets t pair ∙ ap (meet_in g (has rounds) t) (sym same) ∙ meets_there g rr rounds t r in_t in_r here)
    | inr other ↦
        adds t ∙
        or_left (has around t) (has met t)
        (so_far.found t r in_t in_r here there (sym (others_kept left lowest rest (cell g t r).opponent taken other) ∙ gone))
  ];
}

pub around_all : (g : Games) (rr : IsDoubleRoundRobin g) (main rounds whole all left around teams : ℕ) →
    HasAround g main rounds all left around → left ≡ 0 → ((k : ℕ) → has whole k ≡ nat_lt k g.teams) →
    ((k : ℕ) → has all k ≡ (has whole k && has main k)) → IsBelow g.teams teams → (t : ℕ) →
    (has teams t && has around t) ≡ (has teams t && (has main t || is_guest g (has main) (has rounds) t))
unfolding is_guest
around_all g rr main rounds whole all left around teams so_far none_left wholes are below t = elim (cases_lt t g.teams) [
  | inl in_t ↦ ap (λ b. has teams t && b) (same_when _ _ (so_far.only t in_t) (λ one. here in_t (or_cases (has main t) _ one)))
  | inr past ↦ rw (has_beyond g.teams teams t below past) refl
]
  where
    is_found : t < g.teams → is_guest g (has main) (has rounds) t ≡ true → has around t ≡ true
    is_found in_t guest =
        let one = any_one (round_count g.teams) (λ r. has rounds r && has main (cell g t r).opponent) guest in
        let both = and_parts (has rounds one.0) (has main (cell g t one.0).opponent) one.2 in
        so_far.found t one.0 in_t one.1 both.0
        (are (cell g t one.0).opponent ∙
        and_from _ _
        (wholes (cell g t one.0).opponent ∙
        lt-ltb (cell g t one.0).opponent g.teams (is_cell g rr t one.0 in_t one.1).pair.away_in) both.1)
        (ap (λ s. has s (cell g t one.0).opponent) none_left ∙ has_empty (cell g t one.0).opponent)

    here : t < g.teams → (has main t ≡ true) ⊎ (is_guest g (has main) (has rounds) t ≡ true) → has around t ≡ true
    here in_t (inl is_main) = so_far.main_in t is_main
    here in_t (inr guest) = is_found in_t guest

-- where all the teams are found
pub all_around : (g : Games) (main rounds all left around teams both : ℕ) → HasAround g main rounds all left around → IsBelow g.teams
    teams →
    both ≡ teams → ((t : ℕ) → has both t ≡ (has teams t && has around t)) → (t : ℕ) →
    has teams t ≡ (has teams t && (has main t || is_guest g (has main) (has rounds) t))
all_around g main rounds all left around teams both so_far below same members t = elim (cases_lt t g.teams) [
  | inl in_t ↦ at (has teams t) (has around t) (sym (ap (λ s. has s t) same) ∙ members t) (so_far.only t in_t)
  | inr past ↦ rw (has_beyond g.teams teams t below past) refl
]
  where
    at : (a b : Bool) → a ≡ (a && b) → (b ≡ true → (has main t || is_guest g (has main) (has rounds) t) ≡ true) →
        a ≡ (a && (has main t || is_guest g (has main) (has rounds) t))
    at true true is one = sym (one refl)
    at true false is one = absurd (false≢true (sym is))
    at false b is one = refl
