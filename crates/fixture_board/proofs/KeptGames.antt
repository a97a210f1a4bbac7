-- The games of the start that a league keeps: they stand there, and they alone are pinned at the beginning.
use Rattle.std.proofs.Common.{◌≡◌, ℕ, zero, suc, ◌<◌, Bool, true, false, ◌&&◌, ◌||◌, ◌==◌, cond, inl, inr, List, [], ◌∷◌, ◌++◌}
use Rattle.std.proofs.Common.{true≢false, refl, sym, ◌∙◌, ap, subst}
use Rattle.std.proofs.lemmas.Bool.{cases_Bool, eq-eqb, and_parts, eqb-true, false_from_ne_true}
use Rattle.std.proofs.Math.Bool.{or-false}
use Rattle.std.proofs.lemmas.List.Folds.{list_any-append}
use Rattle.league.specs.League.{LeagueData, teams, IsLeague}
use Rattle.league.specs.Starts.{start_of, start_game, keeps, kept_at, kept_below, kept_games}
use Rattle.league.specs.Sums.{any_below}
use Rattle.league.proofs.ForCallers.{any_below_found, any_below_from_none, kept_pair, round_of_start, round_robin_start}
use Rattle.fixtures.specs.declared.game.Game.{Game}
use Rattle.fixtures.specs.Games.{Games, round_count, IsPair}
use Rattle.fixtures.proofs.ForCallers.{game_passes}
use Rattle.fixture_board.specs.History.{is_pinned, AllStand}

-- which games are pinned

abbrev is_of : ℕ → ℕ → Game → Bool
is_of h a pin = pin.home == h && pin.away == a

-- a game that is kept, or none
one : (passes : Bool) (pin : Game) (h a : ℕ) →
    is_pinned (cond passes (pin ∷ []) []) h a ≡ (passes && is_of h a pin)
one true pin h a = or-false (is_of h a pin)
one false pin h a = refl

at_pinned : (l : LeagueData) (home m h a : ℕ) →
    is_pinned (kept_at l home m) h a ≡ any_below m (λ k. keeps l home k && is_of h a (start_game l home k))
unfolding kept_at any_below
at_pinned l home zero h a = refl
at_pinned l home (suc m) h a =
    list_any-append (is_of h a) (kept_at l home m) (cond (keeps l home m) (start_game l home m ∷ []) [])
    ∙ ap (λ b. b || is_pinned (cond (keeps l home m) (start_game l home m ∷ []) []) h a) (at_pinned l home m h a)
    ∙ ap (λ b. any_below m (λ k. keeps l home k && is_of h a (start_game l home k)) || b) (one (keeps l home m) (start_game l home m) h a)

below_pinned : (l : LeagueData) (m h a : ℕ) →
    is_pinned (kept_below l m) h a
    ≡ any_below m (λ home. any_below (teams l) (λ k. keeps l home k && is_of h a (start_game l home k)))
unfolding kept_below any_below
below_pinned l zero h a = refl
below_pinned l (suc m) h a =
    list_any-append (is_of h a) (kept_below l m) (kept_at l m (teams l))
    ∙ ap (λ b. b || is_pinned (kept_at l m (teams l)) h a) (below_pinned l m h a)
    ∙ ap (λ b. any_below m (λ home. any_below (teams l) (λ k. keeps l home k && is_of h a (start_game l home k))) || b)
    (at_pinned l m (teams l) h a)

-- a kept game is pinned, and no other
pub pinned_if_kept : (l : LeagueData) (h a : ℕ) → IsPair (teams l) h a → is_pinned (kept_games l) h a ≡ keeps l h a
unfolding kept_games
pinned_if_kept l h a pair = elim (cases_Bool (keeps l h a)) [
  | inl kept ↦
      below_pinned l (teams l) h a
      ∙ any_below_found (teams l) (λ home. any_below (teams l) (passes home)) h pair.home_in
      (any_below_found (teams l) (passes h) a pair.away_in (both kept))
      ∙ sym kept
  | inr left ↦
      below_pinned l (teams l) h a
      ∙ any_below_from_none (teams l) (λ home. any_below (teams l) (passes home))
      (λ home below. any_below_from_none (teams l) (passes home) (λ k in_k. neither left home k))
      ∙ sym left
]
  where
    passes : ℕ → ℕ → Bool
    passes home k = keeps l home k && (home == h && k == a)

    both : keeps l h a ≡ true → passes h a ≡ true
    both kept = rw (kept, eq-eqb h h refl, eq-eqb a a refl) refl

    neither : keeps l h a ≡ false → (home k : ℕ) → passes home k ≡ false
    neither left home k = false_from_ne_true (passes home k) (λ passed.
        let parts = and_parts (keeps l home k) (home == h && k == a) passed in
        let same = and_parts (home == h) (k == a) parts.1 in
        true≢false (sym parts.0 ∙ rw (eqb-true home h same.0, eqb-true k a same.1) left))

-- the kept games stand

AllStand-append : (g : Games) (pins more : List Game) → AllStand g pins → AllStand g more → AllStand g (pins ++ more)
AllStand-append g [] more stand stand_too = stand_too
AllStand-append g (pin ∷ pins) more stand stand_too = (stand.0, AllStand-append g pins more stand.1 stand_too)

module _ (l : LeagueData) (is : IsLeague l) where
  one_stands : (home away : ℕ) (passes : Bool) → passes ≡ keeps l home away →
      AllStand (start_of l) (cond passes (start_game l home away ∷ []) [])
  one_stands home away true kept =
      let pair : IsPair (teams l) home away = kept_pair l home away is (sym kept) in
      let robin = round_robin_start l is in
      let round = round_of_start l home away pair in (
        (
          game_passes (teams l) (start_game l home away) (record {
            pair = pair;
            in_range = subst (λ r. r < round_count (teams l)) round (robin.in_range home away pair);
          }),
          eq-eqb _ _ round,
        ),
        tt,
      )
  one_stands home away false kept = tt

  at_stands : (home m : ℕ) → AllStand (start_of l) (kept_at l home m)
  unfolding kept_at
  at_stands home zero = tt
  at_stands home (suc m) =
      AllStand-append (start_of l) (kept_at l home m) _ (at_stands home m) (one_stands home m (keeps l home m) refl)

  below_stands : (m : ℕ) → AllStand (start_of l) (kept_below l m)
  unfolding kept_below
  below_stands zero = tt
  below_stands (suc m) =
      AllStand-append (start_of l) (kept_below l m) (kept_at l m (teams l)) (below_stands m) (at_stands m (teams l))

  pub AllStand-kept : AllStand (start_of l) (kept_games l)
  unfolding kept_games
  AllStand-kept = below_stands (teams l)
