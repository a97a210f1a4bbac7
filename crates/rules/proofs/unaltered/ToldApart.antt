-- A change in rounds that a rule doesn't tell apart leaves its deviation: where the slots lack none of the rounds, as many
-- games are in them after it.
use Rattle.std.proofs.Common.{◌≡◌, ℕ, ◌+◌, ◌<◌, ◌&&◌, not, Bool, true, false, List, [], ◌∷◌, inl, inr, refl, sym, ◌∙◌, ap, arith}
use Rattle.std.specs.List.{AllByRecursion}
use Rattle.std.proofs.lemmas.Bool.{and_cases, and_right, false≢true, false_from_ne_true, not-false, not-true}
use Rattle.league.specs.Limits.{max_rounds}
use Rattle.league.specs.Sets.{has}
use Rattle.league.specs.Sums.{count_where}
use Rattle.league.specs.Games.{IsGameFor}
use Rattle.league.specs.RuleLimits.{IsBodyFor}
use Rattle.league.specs.declared.rule.Pairing.{Pairing}
use Rattle.league.specs.declared.rule.RuleBody.{RuleBody}
use Rattle.league.specs.declared.rule.RuleBody.TheVariants.{Ca1, Ca2, Ca3, Ca4, Ga1, Br1, Br2, Se1, Fa2}
use Rattle.league.specs.declared.rule.Side.{Side}
use Rattle.league.proofs.ForCallers.{any_below_fails}
use Rattle.fixtures.specs.declared.game.Cell.{Cell}
use Rattle.fixtures.specs.Games.{Games, round_count, round_of, IsDoubleRoundRobin}
use Rattle.fixtures.specs.Changes.{DiffersOnlyIn}
use Rattle.rules.specs.Deviations.{over, is_counted, games_of_team, deviation}
use Rattle.rules.specs.Touches.{looks_at_round, touches}
use Rattle.rules.specs.Parts.{lacks_one, tells_apart, can_alter}
use Rattle.rules.proofs.counted.CountedRounds.{counted_in_and_out, together_by_teams}
use Rattle.rules.proofs.counted.SeasonCounts.{games_of_season}
use Rattle.rules.proofs.unaltered.SeesSame.{SeesSame, games_of_team-same, sum_where_sized, listed_games_in-same}
use Rattle.rules.proofs.unaltered.Untouched.{other_fails, in_season, in_season', game_stays, game_stayed, untouched_deviation}

module _ (g g' : Games) (rr : IsDoubleRoundRobin g) (rr' : IsDoubleRoundRobin g') (rounds : ℕ → Bool)
    (differs : DiffersOnlyIn g g' (λ _. true) rounds) where
  -- as many games of a team count in each season
  season_same : (side : Side) (opponents : ℕ → Bool) (t : ℕ) → t < g.teams →
      count_where (round_count g'.teams) (is_counted g' side opponents t) ≡
      count_where (round_count g.teams) (is_counted g side opponents t)
  season_same side opponents t in_t =
      sym (games_of_season g' rr' t (rw differs.same_size in_t) side opponents (count_where g.teams opponents)
      (ap (λ (n : ℕ). count_where n opponents) (sym differs.same_size))) ∙
      games_of_season g rr t in_t side opponents (count_where g.teams opponents) refl

  -- all teams, in rounds outside
  pub SeesSame-outside : (teams others opponents : ℕ → Bool) →
      ((r : ℕ) → r < round_count g.teams → others r ≡ true → rounds r ≡ false) → SeesSame g g' teams others opponents
  SeesSame-outside teams others opponents outside = record {
    same_size = differs.same_size;
    side = λ t r in_t in_r team out. ap (λ (c : Cell). c.home) (differs.same_cells t r in_t in_r (outside r in_r out));
    opponent = λ t r in_t in_r team out. ap (λ (c : Cell). opponents c.opponent) (differs.same_cells t r in_t in_r (outside r in_r out));
  }

  -- a game in one of the rounds is in one of them after the change, and no other game is
  pub stays_inside : (game : Pairing) → IsGameFor g.teams game →
      rounds (round_of g' game.home game.away) ≡ rounds (round_of g game.home game.away)
  stays_inside game is = at (rounds (round_of g game.home game.away)) refl (rounds (round_of g' game.home game.away)) refl
    where
      at : (b : Bool) → rounds (round_of g game.home game.away) ≡ b → (c : Bool) → rounds (round_of g' game.home game.away) ≡ c → c ≡ b
      at true inside true inside' = refl
      at false out c is_c = sym is_c ∙ ap rounds (game_stays g g' rr (λ _. true) rounds differs rr' game is out) ∙ out
      at true inside false out = sym out ∙ ap rounds (game_stayed g g' rr (λ _. true) rounds differs rr' game is out) ∙ inside

  module _ (slots : ℕ) (whole : lacks_one slots rounds ≡ false) where
    slot_of : (r : ℕ) → r < round_count g.teams → rounds r ≡ true → has slots r ≡ true
    unfolding lacks_one
    slot_of r in_r is =
        not-false _ (other_fails (rounds r) (not (has slots r))
        (any_below_fails max_rounds (λ r. rounds r && not (has slots r)) whole r (omega (arith, rr.most))) is)

    games_of_team-whole : (side : Side) (opponents : ℕ → Bool) (t : ℕ) → t < g.teams →
        games_of_team g' side opponents (has slots) t ≡ games_of_team g side opponents (has slots) t
    unfolding games_of_team
    games_of_team-whole side opponents t in_t =
        omega (
          arith,
          counted_in_and_out (round_count g'.teams) (has slots) (is_counted g' side opponents t),
          counted_in_and_out (round_count g.teams) (has slots) (is_counted g side opponents t),
          season_same side opponents t in_t,
          games_of_team-same g g' (λ _. true) (λ r. not (has slots r)) opponents
              (SeesSame-outside (λ _. true) (λ r. not (has slots r)) opponents (λ r in_r out.
              false_from_ne_true (rounds r) (λ is. absurd (false≢true (sym (not-true _ out) ∙ slot_of r in_r is))))) side t in_t refl,
        )

    games-whole : (games : List Pairing) → AllByRecursion (IsGameFor g.teams) games →
        AllByRecursion (λ (game : Pairing). has slots (round_of g' game.home game.away) ≡ has slots (round_of g game.home game.away)) games
    games-whole [] all = tt
    games-whole (game ∷ games) all =
        (here game all.0 (rounds (round_of g game.home game.away)) refl, games-whole games all.1)
      where
        here : (game : Pairing) → IsGameFor g.teams game → (b : Bool) → rounds (round_of g game.home game.away) ≡ b →
            has slots (round_of g' game.home game.away) ≡ has slots (round_of g game.home game.away)
        here game is false out = ap (has slots) (game_stays g g' rr (λ _. true) rounds differs rr' game is out)
        here game is true inside =
            slot_of (round_of g' game.home game.away) (in_season' g g' rr (λ _. true) rounds differs rr' game is)
            (stays_inside game is ∙ inside) ∙
            sym (slot_of (round_of g game.home game.away) (in_season g g' rr (λ _. true) rounds differs game is) inside)

  untold_apart : (body : RuleBody) → IsBodyFor g.teams body → tells_apart body rounds ≡ false → deviation g' body ≡ deviation g body
  unfolding tells_apart deviation
  untold_apart (Ca1 teams side slots most) is whole =
      sum_where_sized g'.teams g.teams (has teams) _ _ differs.same_size
      (λ t in_t team. ap (λ (count : ℕ). over count most) (games_of_team-whole slots whole side (λ _. true) t in_t))
  untold_apart (Ca2 teams1 side teams2 slots most) is whole =
      sum_where_sized g'.teams g.teams (has teams1) _ _ differs.same_size
      (λ t in_t team. ap (λ (count : ℕ). over count most) (games_of_team-whole slots whole side (has teams2) t in_t))
  untold_apart (Ca3 teams1 side teams2 window most) is told = absurd (false≢true (sym told))
  untold_apart (Ca4 teams1 side teams2 slots true most) is told = absurd (false≢true (sym told))
  untold_apart (Ca4 teams1 side teams2 slots false most) is whole =
      ap (λ (count : ℕ). over count most)
      (sym (together_by_teams g' side (has teams1) (has teams2) (has slots)) ∙
      sum_where_sized g'.teams g.teams (has teams1) _ _ differs.same_size
      (λ t in_t team. games_of_team-whole slots whole side (has teams2) t in_t) ∙
      together_by_teams g side (has teams1) (has teams2) (has slots))
  untold_apart (Ga1 games slots least most) is whole =
      ap (λ (count : ℕ). over count most + over least count)
      (listed_games_in-same g g' (has slots) games (games-whole slots whole games is.0))
  untold_apart (Br1 teams side slots most) is told = absurd (false≢true (sym told))
  untold_apart (Br2 teams slots most) is told = absurd (false≢true (sym told))
  untold_apart (Se1 teams least) is told = absurd (false≢true (sym told))
  untold_apart (Fa2 teams slots most) is told = absurd (false≢true (sym told))

  pub unaltered_deviation : (body : RuleBody) → IsBodyFor g.teams body → can_alter body rounds ≡ false →
      deviation g' body ≡ deviation g body
  unfolding can_alter touches
  unaltered_deviation body is none = elim (and_cases (looks_at_round body rounds) (tells_apart body rounds) none) [
    | inl unlooked ↦
        untouched_deviation g g' (λ _. true) rounds body rr rr' is differs (and_right _ (looks_at_round body rounds) unlooked)
    | inr whole ↦ untold_apart body is whole
  ]
