-- The table of pins, and the pinned games that it stands for.
use Rattle.std.proofs.Common.{◌≡◌, ◌≢◌, ℕ, ◌+◌, ◌*◌, ◌<◌, ◌≤◌, Bool, true, false, not, cond, if◌then◌else◌}
use Rattle.std.proofs.Common.{◌&&◌, ◌||◌, ◌==◌, inl, inr, List, [], ◌∷◌, length, filter, replicate}
use Rattle.std.proofs.Common.{slice_set, true≢false, refl, sym, ◌∙◌, ap, subst, arith}
use Rattle.std.specs.List.{list_any}
use Rattle.std.proofs.lemmas.Bool.{cases_eq, or_cases, and_parts, eq-eqb, ne_eqb, eqb-true}
use Rattle.std.proofs.Math.Bool.{and-false, or-true}
use Rattle.std.proofs.lemmas.List.{get_or-set_same, get_or-set_other, get_or-replicate, length-replicate}
use Rattle.league.specs.Limits.{max_teams}
use Rattle.league.specs.Pairs.{has_pair}
use Rattle.fixtures.specs.declared.game.Game.{Game}
use Rattle.fixtures.specs.Draft.{is_game_in_range}
use Rattle.fixtures.specs.Games.{Games, round_of, IsPair, IsDoubleRoundRobin}
use Rattle.fixtures.proofs.ForCallers.{game_passed}
use Rattle.fixture_board.specs.History.{is_game, has_game, is_pinned, is_there, moves_pin, AllStand}
use Rattle.fixture_board.specs.within.PinTable.{free, pin_at, pin_entries, ArePinsAt, ArePinnedPairs}

-- what is read after a write

pub pin_at-same : (table : List ℕ) (home away round : ℕ) → home < max_teams → away < max_teams → length table ≡ pin_entries →
    pin_at (slice_set table (home * max_teams + away) round) home away ≡ round
pin_at-same table home away round home_in away_in size = get_or-set_same table (home * max_teams + away) round 0 (omega arith)

pub pin_at-other : (table : List ℕ) (home away round h a : ℕ) → away < max_teams → a < max_teams → (h ≡ home → a ≡ away → ⊥) →
    pin_at (slice_set table (home * max_teams + away) round) h a ≡ pin_at table h a
pin_at-other table home away round h a away_in a_in other =
    get_or-set_other table (home * max_teams + away) (h * max_teams + a) round 0
    (λ same. other (omega (arith, same)) (omega (arith, same)))

-- one pin and one game, that both stand

pair_of : (home away : ℕ) (pin : Game) → (pin.home == home && pin.away == away) ≡ true → (pin.home ≡ home) × (pin.away ≡ away)
pair_of home away pin is =
    let parts = and_parts (pin.home == home) (pin.away == away) is in
    (eqb-true pin.home home parts.0, eqb-true pin.away away parts.1)

pair-other : (home away h a : ℕ) → (h ≡ home → a ≡ away → ⊥) → (home == h && away == a) ≡ false
pair-other home away h a other = elim (cases_eq home h) [
  | inl same ↦ elim (cases_eq away a) [
    | inl both ↦ absurd (other (sym same) (sym both))
    | inr apart ↦ ap (λ b. (home == h) && b) (ne_eqb away a apart) ∙ and-false (home == h)
  ]
  | inr apart ↦ ap (λ b. b && (away == a)) (ne_eqb home h apart)
]

eqb-swap : (a b : ℕ) → (a == b) ≡ (b == a)
eqb-swap a b = elim (cases_eq a b) [
  | inl same ↦ eq-eqb a b same ∙ sym (eq-eqb b a (sym same))
  | inr apart ↦ ne_eqb a b apart ∙ sym (ne_eqb b a (λ same. apart (sym same)))
]

all_three : (round home away : Bool) → (home ≡ true → away ≡ true → round ≡ true) → (round && home && away) ≡ (home && away)
all_three true home away follows = refl
all_three false true true follows = follows refl refl
all_three false true false follows = refl
all_three false false away follows = refl

-- a pin is the game where it is of the same pair
is_game-pair : (g : Games) (game pin : Game) → is_there g game ≡ true → is_there g pin ≡ true →
    is_game game pin ≡ (pin.home == game.home && pin.away == game.away)
is_game-pair g game pin there pin_there =
    all_three (game.round == pin.round) (game.home == pin.home) (game.away == pin.away)
    (λ homes aways.
    eq-eqb game.round pin.round
    (sym (eqb-true (round_of g game.home game.away) game.round there) ∙
    ap (λ h. round_of g h game.away) (eqb-true game.home pin.home homes) ∙
    ap (λ a. round_of g pin.home a) (eqb-true game.away pin.away aways) ∙
    eqb-true (round_of g pin.home pin.away) pin.round pin_there)) ∙
    ap (λ b. b && (game.away == pin.away)) (eqb-swap game.home pin.home) ∙
    ap (λ b. (pin.home == game.home) && b) (eqb-swap game.away pin.away)

-- the range of a game's numbers

pub IsPair-in_range : (g : Games) (game : Game) → is_game_in_range g.teams game ≡ true → IsPair g.teams game.home game.away
IsPair-in_range g game range = (game_passed g.teams game range).pair

pub has_game-pinned : (g : Games) (pins : List Game) (game : Game) → AllStand g pins → is_there g game ≡ true →
    has_game pins game ≡ is_pinned pins game.home game.away
has_game-pinned g [] game all there = refl
has_game-pinned g (pin ∷ pins) game all there =
    ap (λ b. b || has_game pins game) (is_game-pair g game pin there all.0.1) ∙
    ap (λ b. (pin.home == game.home && pin.away == game.away) || b) (has_game-pinned g pins game all.1 there)

-- the rounds of a pinned pair, where the pins stand in two schedules
rounds_of-pinned : (g other : Games) (pins : List Game) (h a : ℕ) → AllStand g pins → AllStand other pins →
    is_pinned pins h a ≡ true → round_of g h a ≡ round_of other h a
rounds_of-pinned g other [] h a all all_other is = absurd (true≢false (sym is))
rounds_of-pinned g other (pin ∷ pins) h a all all_other is =
    elim (or_cases (pin.home == h && pin.away == a) (is_pinned pins h a) is) [
      | inl first ↦
          let pair = pair_of h a pin first in
          let here : round_of g pin.home pin.away ≡ pin.round = eqb-true (round_of g pin.home pin.away) pin.round all.0.1 in
          let there : round_of other pin.home pin.away ≡ pin.round =
          eqb-true (round_of other pin.home pin.away) pin.round all_other.0.1 in
          rw (← pair.0, ← pair.1) (here ∙ sym there)
      | inr later ↦ rounds_of-pinned g other pins h a all.1 all_other.1 later
    ]

-- the table where the games change, and no pinned one

ArePinsAt-if : (pinned : Bool) (x y p : ℕ) → (pinned ≡ true → x ≡ y) → p ≡ (if pinned then x else free) →
    p ≡ (if pinned then y else free)
ArePinsAt-if true x y p same is = is ∙ same refl
ArePinsAt-if false x y p same is = is

pub ArePinsAt-games : (g other : Games) (pins : List Game) (table : List ℕ) → other.teams ≡ g.teams → AllStand g pins →
    AllStand other pins → ArePinsAt g pins table → ArePinsAt other pins table
ArePinsAt-games g other pins table teams all all_other are h a pair =
    ArePinsAt-if (is_pinned pins h a) (round_of g h a) (round_of other h a) (pin_at table h a)
    (rounds_of-pinned g other pins h a all all_other) (are h a (subst (λ n. IsPair n h a) teams pair))

-- the table where one pair is written

ArePinsAt-written : (g : Games) (pins next : List Game) (table : List ℕ) (home away round : ℕ) → home < max_teams → away < max_teams →
    g.teams ≤ max_teams → length table ≡ pin_entries → ArePinsAt g pins table →
    round ≡ (if is_pinned next home away then round_of g home away else free) →
    ((h a : ℕ) → (h ≡ home → a ≡ away → ⊥) → is_pinned next h a ≡ is_pinned pins h a) →
    ArePinsAt g next (slice_set table (home * max_teams + away) round)
ArePinsAt-written g pins next table home away round home_in away_in forty size are own others h a pair =
    let a_in : a < max_teams = omega (arith, pair.away_in) in
    let elsewhere : (h ≡ home → a ≡ away → ⊥) →
    pin_at (slice_set table (home * max_teams + away) round) h a ≡ (if is_pinned next h a then round_of g h a else free) =
    λ other.
    pin_at-other table home away round h a away_in a_in other ∙
    are h a pair ∙
    ap (λ b. if b then round_of g h a else free) (sym (others h a other)) in
    elim (cases_eq h home) [
      | inl same_home ↦ elim (cases_eq a away) [
        | inl same_away ↦ rw (same_home, same_away) (pin_at-same table home away round home_in away_in size ∙ own)
        | inr apart ↦ elsewhere (λ _ same. apart same)
      ]
      | inr apart ↦ elsewhere (λ same _. apart same)
    ]

is_pinned-first : (pins : List Game) (game : Game) → is_pinned (game ∷ pins) game.home game.away ≡ true
is_pinned-first pins game =
    ap (λ b. (b && (game.away == game.away)) || is_pinned pins game.home game.away) (eq-eqb game.home game.home refl) ∙
    ap (λ b. b || is_pinned pins game.home game.away) (eq-eqb game.away game.away refl)

is_pinned-rest : (pins : List Game) (game : Game) (h a : ℕ) → (h ≡ game.home → a ≡ game.away → ⊥) →
    is_pinned (game ∷ pins) h a ≡ is_pinned pins h a
is_pinned-rest pins game h a other = ap (λ b. b || is_pinned pins h a) (pair-other game.home game.away h a other)

-- the pins without one
abbrev pub without : Game → List Game → List Game
without game pins = filter (λ pin. not (is_game game pin)) pins

without_it-if : (test : Game → Bool) (pin : Game) (rest : List Game) (is : Bool) → is ≡ test pin → list_any test rest ≡ false →
    list_any test (cond (not is) (pin ∷ rest) rest) ≡ false
without_it-if test pin rest true same none = none
without_it-if test pin rest false same none = ap (λ b. b || list_any test rest) (sym same) ∙ none

is_pinned-without_it : (g : Games) (pins : List Game) (game : Game) → AllStand g pins → is_there g game ≡ true →
    is_pinned (without game pins) game.home game.away ≡ false
is_pinned-without_it g [] game all there = refl
is_pinned-without_it g (pin ∷ pins) game all there =
    without_it-if (λ p. p.home == game.home && p.away == game.away) pin (without game pins) (is_game game pin)
    (is_game-pair g game pin there all.0.1) (is_pinned-without_it g pins game all.1 there)

without_other-if : (test : Game → Bool) (pin : Game) (kept rest : List Game) (is : Bool) → (is ≡ true → test pin ≡ false) →
    list_any test kept ≡ list_any test rest → list_any test (cond (not is) (pin ∷ kept) kept) ≡ list_any test (pin ∷ rest)
without_other-if test pin kept rest true never same = same ∙ sym (ap (λ b. b || list_any test rest) (never refl))
without_other-if test pin kept rest false never same = ap (λ b. test pin || b) same

is_pinned-without_other : (pins : List Game) (game : Game) (h a : ℕ) → (h ≡ game.home → a ≡ game.away → ⊥) →
    is_pinned (without game pins) h a ≡ is_pinned pins h a
is_pinned-without_other [] game h a other = refl
is_pinned-without_other (pin ∷ pins) game h a other =
    without_other-if (λ p. p.home == h && p.away == a) pin (without game pins) pins (is_game game pin)
    (λ is.
    let parts = and_parts (game.round == pin.round && game.home == pin.home) (game.away == pin.away) is in
    let first = and_parts (game.round == pin.round) (game.home == pin.home) parts.0 in
    let homes : game.home ≡ pin.home = eqb-true game.home pin.home first.1 in
    let aways : game.away ≡ pin.away = eqb-true game.away pin.away parts.1 in
    pair-other pin.home pin.away h a (λ home away. other (home ∙ sym homes) (away ∙ sym aways)))
    (is_pinned-without_other pins game h a other)

module _ (g : Games) (pins : List Game) (table : List ℕ) (game : Game) (forty : g.teams ≤ max_teams) (size : length table ≡ pin_entries)
    (range : is_game_in_range g.teams game ≡ true) (there : is_there g game ≡ true) where
  home_below : game.home < max_teams
  home_below = omega (arith, (IsPair-in_range g game range).home_in)

  away_below : game.away < max_teams
  away_below = omega (arith, (IsPair-in_range g game range).away_in)

  round_is : game.round ≡ round_of g game.home game.away
  round_is = sym (eqb-true (round_of g game.home game.away) game.round there)

  pub ArePinsAt-pin : ArePinsAt g pins table → ArePinsAt g (game ∷ pins) (slice_set table (game.home * max_teams + game.away) game.round)
  ArePinsAt-pin are =
      ArePinsAt-written g pins (game ∷ pins) table game.home game.away game.round home_below away_below forty size are
      (round_is ∙ sym (ap (λ b. if b then round_of g game.home game.away else free) (is_pinned-first pins game)))
      (is_pinned-rest pins game)

  pub ArePinsAt-unpin : AllStand g pins → ArePinsAt g pins table →
      ArePinsAt g (without game pins) (slice_set table (game.home * max_teams + game.away) free)
  ArePinsAt-unpin all are =
      ArePinsAt-written g pins (without game pins) table game.home game.away free home_below away_below forty size are
      (sym (ap (λ b. if b then round_of g game.home game.away else free) (is_pinned-without_it g pins game all there)))
      (is_pinned-without_other pins game)

  pub ArePinsAt-pin_back : AllStand g pins → has_game pins game ≡ false → ArePinsAt g (game ∷ pins) table →
      ArePinsAt g pins (slice_set table (game.home * max_teams + game.away) free)
  ArePinsAt-pin_back all few are =
      ArePinsAt-written g (game ∷ pins) pins table game.home game.away free home_below away_below forty size are
      (sym (ap (λ b. if b then round_of g game.home game.away else free) (sym (has_game-pinned g pins game all there) ∙ few)))
      (λ h a other. sym (is_pinned-rest pins game h a other))

  pub ArePinsAt-unpin_back : AllStand g pins → has_game pins game ≡ true → ArePinsAt g (without game pins) table →
      ArePinsAt g pins (slice_set table (game.home * max_teams + game.away) game.round)
  ArePinsAt-unpin_back all has are =
      ArePinsAt-written g (without game pins) pins table game.home game.away game.round home_below away_below forty size are
      (round_is ∙
      sym (ap (λ b. if b then round_of g game.home game.away else free) (sym (has_game-pinned g pins game all there) ∙ has)))
      (λ h a other. sym (is_pinned-without_other pins game h a other))

-- no game is pinned
pub ArePinsAt-none : (g : Games) → g.teams ≤ max_teams → ArePinsAt g [] (replicate pin_entries free)
ArePinsAt-none g forty h a pair = get_or-replicate pin_entries (h * max_teams + a) free 0 (omega (arith, pair.home_in, pair.away_in))

-- what the table tells of a pair

told-if : (pinned : Bool) (round entry : ℕ) → round < free → entry ≡ (if pinned then round else free) → not (entry == free) ≡ pinned
told-if true round entry below is = ap not (ne_eqb entry free (λ same. omega (arith, same, is)))
told-if false round entry below is = ap not (eq-eqb entry free is)

pub is_pinned-told : (g : Games) (pins : List Game) (table : List ℕ) (h a : ℕ) → IsDoubleRoundRobin g → ArePinsAt g pins table →
    IsPair g.teams h a → not (pin_at table h a == free) ≡ is_pinned pins h a
is_pinned-told g pins table h a robin are pair =
    told-if (is_pinned pins h a) (round_of g h a) (pin_at table h a) (omega (arith, robin.in_range h a pair, robin.most)) (are h a pair)

-- whether a pinned game has another round, by the table

-- the pinned pairs have their rounds in another schedule too
abbrev KeepsPinned : Games → Games → List Game → Type 0
KeepsPinned g other pins = (h a : ℕ) → IsPair g.teams h a → is_pinned pins h a ≡ true → round_of other h a ≡ round_of g h a

moves_pin-kept : (g other : Games) (pins : List Game) → AllStand g pins → KeepsPinned g other pins → moves_pin other pins ≡ false
moves_pin-kept g other [] all keeps = refl
moves_pin-kept g other (pin ∷ pins) all keeps =
    let pair : IsPair g.teams pin.home pin.away = IsPair-in_range g pin all.0.0 in
    let there : is_there other pin ≡ true =
    eq-eqb (round_of other pin.home pin.away) pin.round
    (keeps pin.home pin.away pair (is_pinned-first pins pin) ∙ eqb-true (round_of g pin.home pin.away) pin.round all.0.1) in
    let later : KeepsPinned g other pins =
    λ h a p is. keeps h a p (ap (λ b. (pin.home == h && pin.away == a) || b) is ∙ or-true (pin.home == h && pin.away == a)) in
    ap (λ b. not b || moves_pin other pins) there ∙ moves_pin-kept g other pins all.1 later

moves_pin-moved : (g other : Games) (pins : List Game) (h a : ℕ) → AllStand g pins → is_pinned pins h a ≡ true →
    (round_of other h a ≡ round_of g h a → ⊥) → moves_pin other pins ≡ true
moves_pin-moved g other [] h a all is apart = absurd (true≢false (sym is))
moves_pin-moved g other (pin ∷ pins) h a all is apart =
    elim (or_cases (pin.home == h && pin.away == a) (is_pinned pins h a) is) [
      | inl first ↦
          let pair = pair_of h a pin first in
          let here : round_of g pin.home pin.away ≡ pin.round = eqb-true (round_of g pin.home pin.away) pin.round all.0.1 in
          let back : round_of other pin.home pin.away ≡ round_of g pin.home pin.away → ⊥ = rw (pair.0, pair.1) apart in
          ap (λ b. not b || moves_pin other pins)
          (ne_eqb (round_of other pin.home pin.away) pin.round (λ same. back (same ∙ sym here)))
      | inr later ↦
          ap (λ b. not (is_there other pin) || b) (moves_pin-moved g other pins h a all.1 later apart) ∙
          or-true (not (is_there other pin))
    ]

-- what a pinned pair has in the table
pub entry-pinned : (pinned : Bool) (round entry : ℕ) → entry ≡ (if pinned then round else free) → entry ≢ free →
    (pinned ≡ true) × (entry ≡ round)
entry-pinned true round entry is pin = (refl, is)
entry-pinned false round entry is pin = absurd (pin is)

pub moves_pin-none : (g other : Games) (pins : List Game) (table : List ℕ) → IsDoubleRoundRobin g → AllStand g pins →
    ArePinsAt g pins table →
    ((h a : ℕ) → IsPair g.teams h a → pin_at table h a ≢ free → round_of other h a ≡ pin_at table h a) → moves_pin other pins ≡ false
moves_pin-none g other pins table robin all are none =
    moves_pin-kept g other pins all
    (λ h a pair is.
    let entry : pin_at table h a ≡ round_of g h a = are h a pair ∙ ap (λ b. if b then round_of g h a else free) is in
    none h a pair (λ same. omega (arith, same, entry, robin.in_range h a pair, robin.most)) ∙ entry)

pub moves_pin-some : (g other : Games) (pins : List Game) (table : List ℕ) (h a : ℕ) → AllStand g pins → ArePinsAt g pins table →
    IsPair g.teams h a → pin_at table h a ≢ free → round_of other h a ≢ pin_at table h a → moves_pin other pins ≡ true
moves_pin-some g other pins table h a all are pair pin apart =
    let told = entry-pinned (is_pinned pins h a) (round_of g h a) (pin_at table h a) (are h a pair) pin in
    moves_pin-moved g other pins h a all told.0 (λ same. apart (same ∙ sym told.1))

-- the set of the pinned pairs

pub ArePinnedPairs-none : (pairs : List ℕ) → ((h a : ℕ) → has_pair pairs h a ≡ false) → ArePinnedPairs (replicate pin_entries free) pairs
ArePinnedPairs-none pairs none = record {
  size = length-replicate {A = ℕ} pin_entries free;
  members = λ h a h_in a_in.
      none h a ∙ sym (ap (λ x. not (x == free)) (get_or-replicate pin_entries (h * max_teams + a) free 0 (omega arith)));
}
