-- Games, each once.
use Rattle.std.proofs.Common.{◌≡◌, ℕ, ◌+◌, ◌*◌, ◌<◌, ◌≤◌, ◌||◌, eqb, List, [], ◌∷◌, ◌++◌, length, map, true, false}
use Rattle.std.proofs.Common.{refl, ap, ◌∙◌, arith, inl, inr}
use Rattle.std.specs.List.{list_any, AllByRecursion, IsDistinct}
use Rattle.std.proofs.lemmas.Bool.{or_cases, eqb-true}
use Rattle.std.proofs.lemmas.Bool.Decides.{nat_tests}
use Rattle.std.proofs.lemmas.List.{length-map}
use Rattle.std.proofs.lemmas.Map.Keys.{IsDistinct-push}
use Rattle.std.proofs.lemmas.Map.Steps.{length-le_from_distinct_below}
use Rattle.league.specs.declared.rule.Pairing.{Pairing}
use Rattle.league.specs.Games.{IsGameFor, IsGameList, is_same_game, is_same_game_equiv, has_game}
use Rattle.league.specs.Limits.{max_teams, max_games}

-- the search for a game from either side
has_game-flip : (games : List Pairing) (game : Pairing) → list_any (is_same_game game) games ≡ has_game games game
has_game-flip [] game = refl
has_game-flip (other ∷ games) game =
    ap (λ b. b || list_any (is_same_game game) games) (is_same_game_equiv.symm game other)
    ∙ ap (λ b. is_same_game other game || b) (has_game-flip games game)

fit_push : (P : Pairing → Type 0) (games : List Pairing) (game : Pairing) → AllByRecursion P games → P game
    → AllByRecursion P (games ++ game ∷ [])
fit_push P [] game h p = (p, tt)
fit_push P (x ∷ games) game h p = (h.0, fit_push P games game h.1 p)

pub IsGameList-push : (games : List Pairing) (game : Pairing) → IsGameList games → has_game games game ≡ false
    → IsGameFor max_teams game → IsGameList (games ++ game ∷ [])
IsGameList-push games game h new fit = record {
  each_once = IsDistinct-push is_same_game_equiv games game h.each_once (has_game-flip games game ∙ new);
  fit = fit_push (IsGameFor max_teams) games game h.fit fit;
}

-- games as numbers
abbrev number : Pairing → ℕ
number game = game.home * max_teams + game.away

number-below : (game : Pairing) → IsGameFor max_teams game → number game < max_games
number-below game fit = omega (arith, fit.home, fit.away)

number-differs : (p q : Pairing) → IsGameFor max_teams p → IsGameFor max_teams q → is_same_game p q ≡ false
    → eqb (number p) (number q) ≡ false
number-differs p q p_fit q_fit differs = grind (arith, nat_tests, p_fit.home, p_fit.away, q_fit.home, q_fit.away)

numbers_differ : (game : Pairing) (games : List Pairing) → IsGameFor max_teams game
    → AllByRecursion (IsGameFor max_teams) games
    → AllByRecursion (λ other. is_same_game game other ≡ false) games
    → AllByRecursion (λ n. eqb (number game) n ≡ false) (map number games)
numbers_differ game [] fit fits differ = tt
numbers_differ game (other ∷ games) fit fits differ =
    (number-differs game other fit fits.0 differ.0, numbers_differ game games fit fits.1 differ.1)

numbers_distinct : (games : List Pairing) → IsDistinct is_same_game games → AllByRecursion (IsGameFor max_teams) games
    → IsDistinct eqb (map number games)
unfolding IsDistinct
numbers_distinct [] distinct fits = tt
numbers_distinct (game ∷ games) distinct fits =
    (numbers_differ game games fits.0 fits.1 distinct.0, numbers_distinct games distinct.1 fits.1)

numbers_below : (games : List Pairing) → AllByRecursion (IsGameFor max_teams) games → (q : ℕ)
    → list_any (eqb q) (map number games) ≡ true → q < max_games
numbers_below [] fits q any = absurd (cc)
numbers_below (game ∷ games) fits q any =
    elim (or_cases (eqb q (number game)) (list_any (eqb q) (map number games)) any) [
      | inl here ↦ let e : q ≡ number game = eqb-true q (number game) here in rw e (number-below game fits.0)
      | inr later ↦ numbers_below games fits.1 q later
    ]

pub length-le-IsGameList : (games : List Pairing) → IsGameList games → length games ≤ max_games
length-le-IsGameList games h =
    omega (
      arith,
      length-map games number,
      length-le_from_distinct_below (map number games) max_games (numbers_distinct games h.each_once h.fit) (numbers_below games h.fit),
    )
