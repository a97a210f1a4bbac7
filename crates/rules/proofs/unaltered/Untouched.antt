-- A rule that isn't touched keeps its deviation.
use Rattle.std.proofs.Common.{◌≡◌, ℕ, ◌-◌, ◌<◌, ◌+◌, ◌&&◌, ◌||◌, ◌⊎◌, ◌==◌, not, Bool, true, false, List, [], ◌∷◌, inl, inr, refl, sym, ◌∙◌}
use Rattle.std.proofs.Common.{ap, arith}
use Rattle.std.specs.List.{AllByRecursion, list_any}
use Rattle.std.proofs.lemmas.Bool.{and_cases, and_left, and_right, or_parts, cases_eq, ne_eqb, false≢true}
use Rattle.league.specs.Limits.{max_rounds, max_teams}
use Rattle.league.specs.Sets.{has}
use Rattle.league.specs.Sums.{any_below}
use Rattle.league.specs.Games.{IsGameFor}
use Rattle.league.specs.RuleLimits.{IsBodyFor}
use Rattle.league.specs.declared.rule.Pairing.{Pairing}
use Rattle.league.specs.declared.rule.RuleBody.{RuleBody}
use Rattle.league.specs.declared.rule.RuleBody.TheVariants.{Ca1, Ca2, Ca3, Ca4, Ga1, Br1, Br2, Se1, Fa2}
use Rattle.league.specs.declared.rule.Side.TheVariants.{Any}
use Rattle.league.proofs.ForCallers.{any_below_fails}
use Rattle.fixtures.specs.declared.game.Cell.{Cell}
use Rattle.fixtures.specs.Games.{Games, round_count, round_of, cell, is_home, IsPair, IsDoubleRoundRobin}
use Rattle.fixtures.specs.Changes.{DiffersOnlyIn}
use Rattle.rules.specs.Deviations.{over, deviation}
use Rattle.rules.specs.Touches.{has_touched_team, has_touched_slot, has_touched_round, has_touched_game, has_touched_until, or_before}
use Rattle.rules.specs.Touches.{looks_at_team, looks_at_round, touches}
use Rattle.fixtures.proofs.ForCallers.{round_of_kept}
use Rattle.rules.proofs.unaltered.SeesSame.{SeesSame, SeesSameBreaks, SeesSameUntil, limited-same, together-same, each-same, windows-same}
use Rattle.rules.proofs.unaltered.SeesSame.{breaks_of_each-same, breaks_of_all-same, separation-same, gaps-same, listed_games_in-same}

pub other_fails : (p q : Bool) → (p && q) ≡ false → p ≡ true → q ≡ false
other_fails p q fails passes =
    elim (and_cases p q fails) [ inl fails_here ↦ absurd (false≢true (sym fails_here ∙ passes)) | inr fails_there ↦ fails_there ]

-- where one of two searches below m and n finds nothing, no two numbers pass both
not_both : (m n : ℕ) (p P q Q : ℕ → Bool) → (any_below m (λ t. p t && P t) && any_below n (λ r. q r && Q r)) ≡ false →
    (t r : ℕ) → t < m → r < n → p t ≡ true → q r ≡ true → (P t && Q r) ≡ false
not_both m n p P q Q fails t r in_t in_r is_t is_r =
    elim (and_cases (any_below m (λ t. p t && P t)) (any_below n (λ r. q r && Q r)) fails) [
      | inl none ↦ and_left (P t) (Q r) (other_fails (p t) (P t) (any_below_fails m (λ t. p t && P t) none t in_t) is_t)
      | inr none ↦ and_right (P t) (Q r) (other_fails (q r) (Q r) (any_below_fails n (λ r. q r && Q r) none r in_r) is_r)
    ]

module _ (g g' : Games) (rr : IsDoubleRoundRobin g) (in_teams in_rounds : ℕ → Bool) (differs : DiffersOnlyIn g g' in_teams in_rounds) where
  -- the cells of a rule's teams in its slots stay
  stays_in_slots : (teams slots : ℕ) → (has_touched_team teams in_teams && has_touched_slot slots in_rounds) ≡ false →
      (t r : ℕ) → t < g.teams → r < round_count g.teams → has teams t ≡ true → has slots r ≡ true → cell g' t r ≡ cell g t r
  unfolding has_touched_team has_touched_slot
  stays_in_slots teams slots untouched t r in_t in_r team slot =
      differs.same_cells t r in_t in_r
      (not_both max_teams max_rounds (has teams) in_teams (has slots) in_rounds untouched t r (omega (arith, rr.most)) (omega (arith, rr.most)) team slot)

  SeesSame-slots : (teams slots : ℕ) (opponents : ℕ → Bool) →
      (has_touched_team teams in_teams && has_touched_slot slots in_rounds) ≡ false →
      SeesSame g g' (has teams) (has slots) opponents
  SeesSame-slots teams slots opponents untouched = record {
    same_size = differs.same_size;
    side = λ t r in_t in_r team slot. ap (λ (c : Cell). c.home) (stays_in_slots teams slots untouched t r in_t in_r team slot);
    opponent = λ t r in_t in_r team slot.
        ap (λ (c : Cell). opponents c.opponent) (stays_in_slots teams slots untouched t r in_t in_r team slot);
  }

  -- all cells of a rule's teams stay
  stays : (teams : ℕ) → (has_touched_team teams in_teams && has_touched_round in_rounds) ≡ false →
      (t r : ℕ) → t < g.teams → r < round_count g.teams → has teams t ≡ true → cell g' t r ≡ cell g t r
  unfolding has_touched_team has_touched_round
  stays teams untouched t r in_t in_r team =
      differs.same_cells t r in_t in_r
      (not_both max_teams max_rounds (has teams) in_teams (λ _. true) in_rounds untouched t r (omega (arith, rr.most)) (omega (arith, rr.most)) team refl)

  SeesSame-rounds : (teams : ℕ) (opponents : ℕ → Bool) → (has_touched_team teams in_teams && has_touched_round in_rounds) ≡ false →
      SeesSame g g' (has teams) (λ _. true) opponents
  SeesSame-rounds teams opponents untouched = record {
    same_size = differs.same_size;
    side = λ t r in_t in_r team slot. ap (λ (c : Cell). c.home) (stays teams untouched t r in_t in_r team);
    opponent = λ t r in_t in_r team slot. ap (λ (c : Cell). opponents c.opponent) (stays teams untouched t r in_t in_r team);
  }

  -- the cells of a rule's teams in its slots stay, and those in the rounds before
  stays_around : (teams slots : ℕ) → (has_touched_team teams in_teams && has_touched_slot slots (or_before in_rounds)) ≡ false →
      (t r : ℕ) → t < g.teams → r < round_count g.teams → has teams t ≡ true → has slots r ≡ true →
      (cell g' t r ≡ cell g t r) × (cell g' t (r - 1) ≡ cell g t (r - 1))
  unfolding has_touched_team has_touched_slot
  stays_around teams slots untouched t r in_t in_r team slot =
      let neither : (in_teams t && (in_rounds r || (not (r == 0) && in_rounds (r - 1)))) ≡ false =
      not_both max_teams max_rounds (has teams) in_teams (has slots) (or_before in_rounds) untouched t r (omega (arith, rr.most))
      (omega (arith, rr.most)) team slot in (
        differs.same_cells t r in_t in_r (here (in_teams t) (in_rounds r) _ neither),
        differs.same_cells t (r - 1) in_t (omega arith) (before r neither),
      )
    where
      here : (p q x : Bool) → (p && (q || x)) ≡ false → (p && q) ≡ false
      here p q x fails = elim (and_cases p (q || x) fails) [
        | inl fails_here ↦ and_left p q fails_here
        | inr fails_there ↦ and_right p q (or_parts q x fails_there).0
      ]

      later : (p q x y : Bool) → x ≡ true → (p && (q || (x && y))) ≡ false → (p && y) ≡ false
      later p q x y is fails = elim (and_cases p (q || (x && y)) fails) [
        | inl fails_here ↦ and_left p y fails_here
        | inr fails_there ↦ and_right p y (other_fails x y (or_parts q (x && y) fails_there).1 is)
      ]

      before : (r : ℕ) → (in_teams t && (in_rounds r || (not (r == 0) && in_rounds (r - 1)))) ≡ false →
          (in_teams t && in_rounds (r - 1)) ≡ false
      before r neither = elim (cases_eq r 0) [
        | inl first ↦
            let same : r - 1 ≡ r = omega arith in
            rw same (here (in_teams t) (in_rounds r) _ neither)
        | inr other ↦ later (in_teams t) (in_rounds r) (not (r == 0)) (in_rounds (r - 1)) (ap not (ne_eqb r 0 other)) neither
      ]

  SeesSameBreaks-slots : (teams slots : ℕ) → (has_touched_team teams in_teams && has_touched_slot slots (or_before in_rounds)) ≡ false →
      SeesSameBreaks g g' (has teams) (has slots)
  SeesSameBreaks-slots teams slots untouched = record {
    same_size = differs.same_size;
    side = λ t r in_t in_r team slot. ap (λ (c : Cell). c.home) (stays_around teams slots untouched t r in_t in_r team slot).0;
    before = λ t r in_t in_r team slot. ap (λ (c : Cell). c.home) (stays_around teams slots untouched t r in_t in_r team slot).1;
  }

  -- the cells of a rule's teams stay up to its slots
  SeesSameUntil-slots : (teams slots : ℕ) → (has_touched_team teams in_teams && has_touched_until slots in_rounds) ≡ false →
      SeesSameUntil g g' (has teams) (has slots)
  unfolding has_touched_team has_touched_until is_home
  SeesSameUntil-slots teams slots untouched = record {
    same_size = differs.same_size;
    side = λ t r k in_t in_r team slot until.
        ap (λ (c : Cell). c.home) (differs.same_cells t k in_t (omega arith) (one_fails t r k until
        (not_both max_teams max_rounds (has teams) in_teams (has slots) (λ r. any_below (r + 1) in_rounds) untouched t r (omega (arith, rr.most))
        (omega (arith, rr.most)) team slot)));
  }
    where
      one_fails : (t r k : ℕ) → k < r + 1 → (in_teams t && any_below (r + 1) in_rounds) ≡ false → (in_teams t && in_rounds k) ≡ false
      one_fails t r k until neither = elim (and_cases (in_teams t) (any_below (r + 1) in_rounds) neither) [
        | inl fails_here ↦ and_left (in_teams t) (in_rounds k) fails_here
        | inr none ↦ and_right (in_teams t) (in_rounds k) (any_below_fails (r + 1) in_rounds none k until)
      ]

  -- each two teams of a rule keep the rounds of their games
  rounds_kept : IsDoubleRoundRobin g' → (teams : ℕ) → (has_touched_team teams in_teams && has_touched_round in_rounds) ≡ false →
      (i j : ℕ) → IsPair g.teams i j → has teams i ≡ true → has teams j ≡ true → round_of g' i j ≡ round_of g i j
  rounds_kept rr' teams untouched i j pair team other =
      round_of_kept g g' rr rr' differs.same_size i j pair
      (stays teams untouched i (round_of g i j) pair.home_in (rr.in_range i j pair) team)

  pair : (game : Pairing) → IsGameFor g.teams game → IsPair g.teams game.home game.away
  pair game is = record { home_in = is.home; away_in = is.away; distinct = is.distinct }

  pub in_season : (game : Pairing) → IsGameFor g.teams game → round_of g game.home game.away < round_count g.teams
  in_season game is = rr.in_range game.home game.away (pair game is)

  module _ (rr' : IsDoubleRoundRobin g') where
    pub in_season' : (game : Pairing) → IsGameFor g.teams game → round_of g' game.home game.away < round_count g.teams
    in_season' game is = rw differs.same_size at (rr'.in_range game.home game.away (rw differs.same_size (pair game is)))

    -- a game of a list stays in its round, where that isn't touched before or after
    pub game_stays : (game : Pairing) → IsGameFor g.teams game →
        (in_teams game.home && in_rounds (round_of g game.home game.away)) ≡ false →
        round_of g' game.home game.away ≡ round_of g game.home game.away
    game_stays game is out =
        round_of_kept g g' rr rr' differs.same_size game.home game.away (pair game is)
        (differs.same_cells _ _ is.home (in_season game is) out)

    pub game_stayed : (game : Pairing) → IsGameFor g.teams game →
        (in_teams game.home && in_rounds (round_of g' game.home game.away)) ≡ false →
        round_of g' game.home game.away ≡ round_of g game.home game.away
    game_stayed game is out =
        sym (round_of_kept g' g rr' rr (sym differs.same_size) game.home game.away (rw differs.same_size (pair game is))
        (sym (differs.same_cells _ _ is.home (in_season' game is) out)))

  -- a game of a list is in the slots in both schedules or in neither
  game_kept : IsDoubleRoundRobin g' → (slots : ℕ) (game : Pairing) → IsGameFor g.teams game →
      (in_teams game.home ≡ false) ⊎ (has_touched_slot slots in_rounds ≡ false) →
      has slots (round_of g' game.home game.away) ≡ has slots (round_of g game.home game.away)
  unfolding has_touched_slot
  game_kept rr' slots game is untouched = elim untouched [
    | inl home ↦ ap (has slots) (game_stays rr' game is (and_left _ _ home))
    | inr none ↦ by_tests none (has slots (round_of g game.home game.away)) refl (has slots (round_of g' game.home game.away)) refl
  ]
    where
      slot_kept : any_below max_rounds (λ r. has slots r && in_rounds r) ≡ false → (r : ℕ) → r < round_count g.teams → has slots r ≡ true →
          in_rounds r ≡ false
      slot_kept none r below slot =
          other_fails (has slots r) (in_rounds r) (any_below_fails max_rounds (λ r. has slots r && in_rounds r) none r (omega (arith, rr.most)))
          slot

      by_tests : any_below max_rounds (λ r. has slots r && in_rounds r) ≡ false → (b : Bool) → has slots (round_of g game.home game.away) ≡ b →
          (c : Bool) → has slots (round_of g' game.home game.away) ≡ c → c ≡ b
      by_tests none true slot c slot' =
          sym slot' ∙ ap (has slots) (game_stays rr' game is (and_right _ _ (slot_kept none _ (in_season game is) slot))) ∙ slot
      by_tests none false slot true slot' =
          sym slot' ∙ ap (has slots) (game_stayed rr' game is (and_right _ _ (slot_kept none _ (in_season' rr' game is) slot'))) ∙ slot
      by_tests none false slot false slot' = refl

  games_kept : IsDoubleRoundRobin g' → (slots : ℕ) (games : List Pairing) → AllByRecursion (IsGameFor g.teams) games →
      (has_touched_game games in_teams ≡ false) ⊎ (has_touched_slot slots in_rounds ≡ false) →
      AllByRecursion (λ (game : Pairing). has slots (round_of g' game.home game.away) ≡ has slots (round_of g game.home game.away)) games
  unfolding has_touched_game
  games_kept rr' slots [] all untouched = tt
  games_kept rr' slots (game ∷ games) all untouched = elim untouched [
    | inl homes ↦
        let parts = or_parts (in_teams game.home) (list_any (λ (game : Pairing). in_teams game.home) games) homes in
        (game_kept rr' slots game all.0 (inl parts.0), games_kept rr' slots games all.1 (inl parts.1))
    | inr none ↦ (game_kept rr' slots game all.0 (inr none), games_kept rr' slots games all.1 (inr none))
  ]

pub untouched_deviation : (g g' : Games) (in_teams in_rounds : ℕ → Bool) (body : RuleBody) → IsDoubleRoundRobin g → IsDoubleRoundRobin g' →
    IsBodyFor g.teams body → DiffersOnlyIn g g' in_teams in_rounds → touches body in_teams in_rounds ≡ false →
    deviation g' body ≡ deviation g body
unfolding touches looks_at_team looks_at_round deviation
untouched_deviation g g' in_teams in_rounds (Ca1 teams side slots most) rr rr' is differs untouched =
    limited-same g g' (has teams) (has slots) (λ _. true)
    (SeesSame-slots g g' rr in_teams in_rounds differs teams slots (λ _. true) untouched) side most
untouched_deviation g g' in_teams in_rounds (Ca2 teams1 side teams2 slots most) rr rr' is differs untouched =
    limited-same g g' (has teams1) (has slots) (has teams2)
    (SeesSame-slots g g' rr in_teams in_rounds differs teams1 slots (has teams2) untouched) side most
untouched_deviation g g' in_teams in_rounds (Ca3 teams1 side teams2 window most) rr rr' is differs untouched =
    windows-same g g' (has teams1) (has teams2) (SeesSame-rounds g g' rr in_teams in_rounds differs teams1 (has teams2) untouched) side
    window most is.3
untouched_deviation g g' in_teams in_rounds (Ca4 teams1 side teams2 slots false most) rr rr' is differs untouched =
    together-same g g' (has teams1) (has slots) (has teams2)
    (SeesSame-slots g g' rr in_teams in_rounds differs teams1 slots (has teams2) untouched) side most
untouched_deviation g g' in_teams in_rounds (Ca4 teams1 side teams2 slots true most) rr rr' is differs untouched =
    each-same g g' (has teams1) (has slots) (has teams2)
    (SeesSame-slots g g' rr in_teams in_rounds differs teams1 slots (has teams2) untouched) side most
untouched_deviation g g' in_teams in_rounds (Ga1 games slots least most) rr rr' is differs untouched =
    ap (λ (count : ℕ). over count most + over least count)
    (listed_games_in-same g g' (has slots) games (games_kept g g' rr in_teams in_rounds differs rr' slots games is.0
    (and_cases (has_touched_game games in_teams) (has_touched_slot slots in_rounds) untouched)))
untouched_deviation g g' in_teams in_rounds (Br1 teams side slots most) rr rr' is differs untouched =
    breaks_of_each-same g g' (has teams) (has slots) (SeesSameBreaks-slots g g' rr in_teams in_rounds differs teams slots untouched) side
    most
untouched_deviation g g' in_teams in_rounds (Br2 teams slots most) rr rr' is differs untouched =
    breaks_of_all-same g g' (has teams) (has slots) (SeesSameBreaks-slots g g' rr in_teams in_rounds differs teams slots untouched) Any most
untouched_deviation g g' in_teams in_rounds (Se1 teams least) rr rr' is differs untouched =
    separation-same g g' (has teams) least differs.same_size (rounds_kept g g' rr in_teams in_rounds differs rr' teams untouched)
untouched_deviation g g' in_teams in_rounds (Fa2 teams slots most) rr rr' is differs untouched =
    gaps-same g g' (has teams) (has slots) (SeesSameUntil-slots g g' rr in_teams in_rounds differs teams slots untouched) most
