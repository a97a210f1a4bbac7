-- What a rule looks at, for one team or one round alone.
use Rattle.std.proofs.Common.{◌≡◌, ℕ, ◌+◌, ◌-◌, ◌&&◌, ◌||◌, ◌==◌, not, Bool, true, List, [], ◌∷◌, inl, inr}
use Rattle.std.specs.List.{list_any}
use Rattle.std.proofs.lemmas.Bool.{or_cases, or_left, or_right, and_parts, and_from, false≢true}
use Rattle.league.specs.Limits.{max_teams, max_rounds}
use Rattle.league.specs.Sets.{has}
use Rattle.league.specs.Sums.{any_below}
use Rattle.league.specs.declared.rule.Pairing.{Pairing}
use Rattle.league.specs.declared.rule.RuleBody.{RuleBody}
use Rattle.league.specs.declared.rule.RuleBody.TheVariants.{Ca1, Ca2, Ca3, Ca4, Ga1, Br1, Br2, Se1, Fa2}
use Rattle.league.proofs.ForCallers.{any_below_found}
use Rattle.rules.specs.LooksPast.{has_game_of}
use Rattle.rules.specs.Touches.{has_touched_team, has_touched_slot, has_touched_round, has_touched_until, or_before, looks_at_round}
use Rattle.rule_index.specs.Index.{alone}
use Rattle.rule_index.proofs.Members.{any_below_one, any_below_grows, in_alone, IsFoundByOne}

-- one of a set

meets : (n set : ℕ) → IsFoundByOne n (λ p. any_below n (λ k. has set k && p k))
meets n set = record {
  grows = λ p q in_q passes. any_below_grows n (λ k. has set k && p k) (λ k. has set k && q k)
      (λ k below both. let parts = and_parts (has set k) (p k) both in and_from (has set k) (q k) parts.0 (in_q k parts.1)) passes;
  found = λ p passes.
      let one = any_below_one n (λ k. has set k && p k) passes in
      let parts = and_parts (has set one.0) (p one.0) one.2 in (
        one.0,
        parts.1,
        any_below_found n (λ k. has set k && has (alone one.0) k) one.0 one.1
            (and_from (has set one.0) (has (alone one.0) one.0) parts.0 (in_alone one.0)),
      );
}

pub meets_teams : (teams : ℕ) → IsFoundByOne max_teams (has_touched_team teams)
unfolding has_touched_team
meets_teams teams = meets max_teams teams

meets_slots : (slots : ℕ) → IsFoundByOne max_rounds (has_touched_slot slots)
unfolding has_touched_slot
meets_slots slots = meets max_rounds slots

-- any round

meets_round : IsFoundByOne max_rounds has_touched_round
unfolding has_touched_round
meets_round = record {
  grows = λ p q in_q passes. any_below_grows max_rounds p q (λ k below in_p. in_q k in_p) passes;
  found = λ p passes.
      let one = any_below_one max_rounds p passes in
      (one.0, one.2, any_below_found max_rounds (has (alone one.0)) one.0 one.1 (in_alone one.0));
}

-- one of the slots, or the round before it

before_grows : (p q : ℕ → Bool) (r : ℕ) → ((k : ℕ) → p k ≡ true → q k ≡ true) → or_before p r ≡ true → or_before q r ≡ true
before_grows p q r in_q passes = elim (or_cases (p r) (not (r == 0) && p (r - 1)) passes) [
  | inl here ↦ or_left (q r) (not (r == 0) && q (r - 1)) (in_q r here)
  | inr before ↦
      let parts = and_parts (not (r == 0)) (p (r - 1)) before in
      or_right (q r) (not (r == 0) && q (r - 1)) (and_from (not (r == 0)) (q (r - 1)) parts.0 (in_q (r - 1) parts.1))
]

before_found : (p : ℕ → Bool) (r : ℕ) → or_before p r ≡ true → (k : ℕ) × (p k ≡ true) × (or_before (has (alone k)) r ≡ true)
before_found p r passes = elim (or_cases (p r) (not (r == 0) && p (r - 1)) passes) [
  | inl here ↦ (r, here, or_left (has (alone r) r) (not (r == 0) && has (alone r) (r - 1)) (in_alone r))
  | inr before ↦
      let parts = and_parts (not (r == 0)) (p (r - 1)) before in (
        r - 1,
        parts.1,
        or_right (has (alone (r - 1)) r) (not (r == 0) && has (alone (r - 1)) (r - 1))
            (and_from (not (r == 0)) (has (alone (r - 1)) (r - 1)) parts.0 (in_alone (r - 1))),
      )
]

meets_breaks : (slots : ℕ) → IsFoundByOne max_rounds (λ p. has_touched_slot slots (or_before p))
unfolding has_touched_slot
meets_breaks slots = record {
  grows = λ p q in_q passes. any_below_grows max_rounds (λ r. has slots r && or_before p r) (λ r. has slots r && or_before q r)
      (λ r below both.
      let parts = and_parts (has slots r) (or_before p r) both in
      and_from (has slots r) (or_before q r) parts.0 (before_grows p q r in_q parts.1)) passes;
  found = λ p passes.
      let one = any_below_one max_rounds (λ r. has slots r && or_before p r) passes in
      let parts = and_parts (has slots one.0) (or_before p one.0) one.2 in
      let near = before_found p one.0 parts.1 in (
        near.0,
        near.1,
        any_below_found max_rounds (λ r. has slots r && or_before (has (alone near.0)) r) one.0 one.1
            (and_from (has slots one.0) (or_before (has (alone near.0)) one.0) parts.0 near.2),
      );
}

-- a round up to one of the slots
meets_until : (slots : ℕ) → IsFoundByOne max_rounds (has_touched_until slots)
unfolding has_touched_until
meets_until slots = record {
  grows = λ p q in_q passes. any_below_grows max_rounds (λ r. has slots r && any_below (r + 1) p) (λ r. has slots r && any_below (r + 1) q)
      (λ r below both.
      let parts = and_parts (has slots r) (any_below (r + 1) p) both in
      and_from (has slots r) (any_below (r + 1) q) parts.0 (any_below_grows (r + 1) p q (λ k until in_p. in_q k in_p) parts.1)) passes;
  found = λ p passes.
      let one = any_below_one max_rounds (λ r. has slots r && any_below (r + 1) p) passes in
      let parts = and_parts (has slots one.0) (any_below (one.0 + 1) p) one.2 in
      let early = any_below_one (one.0 + 1) p parts.1 in (
        early.0,
        early.2,
        any_below_found max_rounds (λ r. has slots r && any_below (r + 1) (has (alone early.0))) one.0 one.1
            (and_from (has slots one.0) (any_below (one.0 + 1) (has (alone early.0))) parts.0
            (any_below_found (one.0 + 1) (has (alone early.0)) early.0 early.1 (in_alone early.0))),
      );
}

-- a game of a list

abbrev is_game_of : (ℕ → Bool) → Pairing → Bool
is_game_of p game = p game.home || p game.away

game_grows : (p q : ℕ → Bool) (game : Pairing) → ((k : ℕ) → p k ≡ true → q k ≡ true) → is_game_of p game ≡ true → is_game_of q game ≡ true
game_grows p q game in_q passes = elim (or_cases (p game.home) (p game.away) passes) [
  | inl home ↦ or_left (q game.home) (q game.away) (in_q game.home home)
  | inr away ↦ or_right (q game.home) (q game.away) (in_q game.away away)
]

game_found : (p : ℕ → Bool) (game : Pairing) → is_game_of p game ≡ true → (k : ℕ) × (p k ≡ true) × (is_game_of (has (alone k)) game ≡ true)
game_found p game passes = elim (or_cases (p game.home) (p game.away) passes) [
  | inl home ↦
      (game.home, home, or_left (has (alone game.home) game.home) (has (alone game.home) game.away) (in_alone game.home))
  | inr away ↦
      (game.away, away, or_right (has (alone game.away) game.home) (has (alone game.away) game.away) (in_alone game.away))
]

games_grow : (games : List Pairing) (p q : ℕ → Bool) → ((k : ℕ) → p k ≡ true → q k ≡ true) → list_any (is_game_of p) games ≡ true →
    list_any (is_game_of q) games ≡ true
games_grow [] p q in_q passes = absurd (false≢true passes)
games_grow (game ∷ games) p q in_q passes = elim (or_cases (is_game_of p game) (list_any (is_game_of p) games) passes) [
  | inl here ↦ or_left (is_game_of q game) (list_any (is_game_of q) games) (game_grows p q game in_q here)
  | inr later ↦ or_right (is_game_of q game) (list_any (is_game_of q) games) (games_grow games p q in_q later)
]

games_found : (games : List Pairing) (p : ℕ → Bool) → list_any (is_game_of p) games ≡ true →
    (k : ℕ) × (p k ≡ true) × (list_any (is_game_of (has (alone k))) games ≡ true)
games_found [] p passes = absurd (false≢true passes)
games_found (game ∷ games) p passes = elim (or_cases (is_game_of p game) (list_any (is_game_of p) games) passes) [
  | inl here ↦
      let one = game_found p game here in
      (one.0, one.1, or_left (is_game_of (has (alone one.0)) game) (list_any (is_game_of (has (alone one.0))) games) one.2)
  | inr later ↦
      let one = games_found games p later in
      (one.0, one.1, or_right (is_game_of (has (alone one.0)) game) (list_any (is_game_of (has (alone one.0))) games) one.2)
]

pub meets_games : (games : List Pairing) → IsFoundByOne max_teams (has_game_of games)
unfolding has_game_of
meets_games games = record { grows = λ p q in_q passes. games_grow games p q in_q passes; found = λ p passes. games_found games p passes }

-- the rounds of a rule
pub meets_rounds : (body : RuleBody) → IsFoundByOne max_rounds (looks_at_round body)
unfolding looks_at_round
meets_rounds (Ca1 teams side slots most) = meets_slots slots
meets_rounds (Ca2 teams1 side teams2 slots most) = meets_slots slots
meets_rounds (Ca3 teams1 side teams2 window most) = meets_round
meets_rounds (Ca4 teams1 side teams2 slots each most) = meets_slots slots
meets_rounds (Ga1 games slots least most) = meets_slots slots
meets_rounds (Br1 teams side slots most) = meets_breaks slots
meets_rounds (Br2 teams slots most) = meets_breaks slots
meets_rounds (Se1 teams least) = meets_round
meets_rounds (Fa2 teams slots most) = meets_until slots
