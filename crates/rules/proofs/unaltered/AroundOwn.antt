-- The teams around main teams, found by their own games.
use Rattle.std.proofs.Common.{◌≡◌, ℕ, ◌<◌, ◌&&◌, ◌||◌, ◌==◌, not, Bool, true, false, refl, sym, ◌∙◌, ap, inl, inr, arith}
use Rattle.std.proofs.lemmas.Bool.{cases_eq, and_parts, and_from, eq-eqb, ne_eqb, false≢true}
use Rattle.league.specs.Sets.{has, IsBelow}
use Rattle.league.specs.within.Sets.{IsWithoutLowest}
use Rattle.league.proofs.ForCallers.{others_kept, lowest_gone, has_empty, any_below_found, any_below_from_none}
use Rattle.fixtures.specs.Games.{Games, round_count, cell}
use Rattle.rules.specs.Parts.{is_guest}

-- a loop over rounds has found none in which the team meets a main team, but for those that are left
pub record MeetsNone (g : Games) (main rounds team left : ℕ) : Type 0 where
  pub below : IsBelow (round_count g.teams) left
  pub within : (r : ℕ) → r < round_count g.teams → has left r ≡ true → has rounds r ≡ true
  pub none : (r : ℕ) → r < round_count g.teams → has rounds r ≡ true → has left r ≡ false → has main (cell g team r).opponent ≡ false

pub meets_none_yet : (g : Games) (main rounds team left : ℕ) → IsBelow (round_count g.teams) left →
    ((r : ℕ) → r < round_count g.teams → has left r ≡ has rounds r) → MeetsNone g main rounds team left
meets_none_yet g main rounds team left below same = record {
  below = below;
  within = λ r in_r here. sym (same r in_r) ∙ here;
  none = λ r in_r here gone. absurd (false≢true (sym gone ∙ same r in_r ∙ here));
}

pub meets_none_more : (g : Games) (main rounds team left lowest rest : ℕ) → MeetsNone g main rounds team left →
    IsWithoutLowest left lowest rest → has main (cell g team lowest).opponent ≡ false → MeetsNone g main rounds team rest
meets_none_more g main rounds team left lowest rest so_far taken fails = record {
  below = omega (arith, so_far.below, taken.fewer);
  within = λ r in_r here. so_far.within r in_r (and_parts (has left r) (not (r == lowest)) (sym (taken.others r) ∙ here)).0;
  none = λ r in_r here gone. elim (cases_eq r lowest) [
    | inl same ↦ ap (λ k. has main (cell g team k).opponent) same ∙ fails
    | inr other ↦ so_far.none r in_r here (sym (others_kept left lowest rest r taken other) ∙ gone)
  ];
}

pub is_guest_found : (g : Games) (main rounds team lowest : ℕ) → lowest < round_count g.teams → has rounds lowest ≡ true →
    has main (cell g team lowest).opponent ≡ true → is_guest g (has main) (has rounds) team ≡ true
unfolding is_guest
is_guest_found g main rounds team lowest in_r here meets =
    any_below_found (round_count g.teams) (λ r. has rounds r && has main (cell g team r).opponent) lowest in_r
    (and_from (has rounds lowest) (has main (cell g team lowest).opponent) here meets)

pub is_no_guest : (g : Games) (main rounds team left : ℕ) → MeetsNone g main rounds team left → left ≡ 0 →
    is_guest g (has main) (has rounds) team ≡ false
unfolding is_guest
is_no_guest g main rounds team left so_far none_left =
    any_below_from_none (round_count g.teams) (λ r. has rounds r && has main (cell g team r).opponent)
    (λ r in_r. each r in_r (has rounds r) refl)
  where
    each : (r : ℕ) → r < round_count g.teams → (b : Bool) → has rounds r ≡ b → (b && has main (cell g team r).opponent) ≡ false
    each r in_r true here = so_far.none r in_r here (ap (λ s. has s r) none_left ∙ has_empty r)
    each r in_r false here = refl

-- a loop over the teams that aren't main ones has found the guests, but for those that are left
pub record HasGuests (g : Games) (main rounds teams left around : ℕ) : Type 0 where
  pub below : IsBelow g.teams left
  pub around_below : IsBelow g.teams around
  pub within : (t : ℕ) → has left t ≡ true → has teams t ≡ true
  pub found : (t : ℕ) →
      has around t ≡ (has teams t && (has main t || (not (has left t) && is_guest g (has main) (has rounds) t)))

pub guests_none : (g : Games) (main rounds teams left around : ℕ) → IsBelow g.teams left → IsBelow g.teams around →
    ((t : ℕ) → has left t ≡ (has teams t && not (has main t))) → ((t : ℕ) → has around t ≡ (has teams t && has main t)) →
    HasGuests g main rounds teams left around
guests_none g main rounds teams left around below around_below are mains = record {
  below = below;
  around_below = around_below;
  within = λ t here. (and_parts (has teams t) (not (has main t)) (sym (are t) ∙ here)).0;
  found = λ t.
      mains t ∙ at (has teams t) (has main t) (is_guest g (has main) (has rounds) t) ∙
      sym (ap (λ b. has teams t && (has main t || (not b && is_guest g (has main) (has rounds) t))) (are t));
}
  where
    at : (a m e : Bool) → (a && m) ≡ (a && (m || (not (a && not m) && e)))
    at true true e = refl
    at true false e = refl
    at false m e = refl

pub guests_more : (g : Games) (main rounds teams left lowest rest around new : ℕ) → HasGuests g main rounds teams left around →
    IsWithoutLowest left lowest rest → IsBelow g.teams new →
    ((t : ℕ) → has new t ≡ ((t == lowest && is_guest g (has main) (has rounds) lowest) || has around t)) →
    HasGuests g main rounds teams rest new
guests_more g main rounds teams left lowest rest around new so_far taken new_below adds = record {
  below = omega (arith, so_far.below, taken.fewer);
  around_below = new_below;
  within = λ t here. so_far.within t (and_parts (has left t) (not (t == lowest)) (sym (taken.others t) ∙ here)).0;
  found = λ t. elim (cases_eq t lowest) [
    | inl same ↦ rw same at_lowest
    | inr other ↦
        adds t ∙ ap (λ b. (b && is_guest g (has main) (has rounds) lowest) || has around t) (ne_eqb t lowest other) ∙ so_far.found t ∙
        ap (λ b. has teams t && (has main t || (not b && is_guest g (has main) (has rounds) t)))
        (sym (others_kept left lowest rest t taken other))
  ];
}
  where
    at : (e a m l r : Bool) → a ≡ true → l ≡ true → r ≡ false →
        (e || (a && (m || (not l && e)))) ≡ (a && (m || (not r && e)))
    at true true true true false in_teams in_left gone = refl
    at true true false true false in_teams in_left gone = refl
    at false true true true false in_teams in_left gone = refl
    at false true false true false in_teams in_left gone = refl
    at e false m l r in_teams in_left gone = absurd (false≢true in_teams)
    at e true m false r in_teams in_left gone = absurd (false≢true in_left)
    at e true m true true in_teams in_left gone = absurd (false≢true (sym gone))

    at_lowest : has new lowest ≡
        (has teams lowest && (has main lowest || (not (has rest lowest) && is_guest g (has main) (has rounds) lowest)))
    at_lowest =
        adds lowest ∙ ap (λ b. (b && is_guest g (has main) (has rounds) lowest) || has around lowest) (eq-eqb lowest lowest refl) ∙
        ap (λ b. is_guest g (has main) (has rounds) lowest || b) (so_far.found lowest) ∙
        at (is_guest g (has main) (has rounds) lowest) (has teams lowest) (has main lowest) (has left lowest) (has rest lowest)
        (so_far.within lowest taken.in_set) taken.in_set (lowest_gone left lowest rest taken)

pub guests_all : (g : Games) (main rounds teams left around : ℕ) → HasGuests g main rounds teams left around → left ≡ 0 → (t : ℕ) →
    has around t ≡ (has teams t && (has main t || is_guest g (has main) (has rounds) t))
guests_all g main rounds teams left around so_far none_left t =
    so_far.found t ∙
    ap (λ b. has teams t && (has main t || (not b && is_guest g (has main) (has rounds) t)))
    (ap (λ s. has s t) none_left ∙ has_empty t)
