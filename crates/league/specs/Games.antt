-- Lists of games, each once.
use Rattle.std.specs.Prelude.{◌≢◌, ℕ, ◌<◌, ◌&&◌, ◌==◌, List, [], ◌∷◌, ◌++◌, Bool, if◌then◌else◌}
use Rattle.std.specs.List.{list_any, AllByRecursion, IsDistinct}
use Rattle.std.specs.Cmp.{IsEquivalence, and_equiv, nat_eq_equiv, on_equiv}
use Rattle.std.specs.Cmp.Lexicographic.{lists_equiv, pointwise}
use Rattle.league.specs.declared.rule.Pairing.{Pairing}
use Rattle.league.specs.Limits.{max_teams}

-- two distinct teams of n
pub record IsGameFor (n : ℕ) (game : Pairing) : Type 0 where
  pub home : game.home < n
  pub away : game.away < n
  pub distinct : game.home ≢ game.away

abbrev pub is_same_game : Pairing → Pairing → Bool
is_same_game p q = (p.home == q.home) && (p.away == q.away)

-- to be the same game is an equivalence, and so it is of lists of games
pub is_same_game_equiv : IsEquivalence is_same_game
is_same_game_equiv =
    and_equiv (on_equiv (λ (p : Pairing). p.home) nat_eq_equiv) (on_equiv (λ (p : Pairing). p.away) nat_eq_equiv)

pub same_games_equiv : IsEquivalence (pointwise is_same_game)
same_games_equiv = lists_equiv is_same_game_equiv

-- games of distinct teams, each once
pub record IsGameList (games : List Pairing) : Type 0 where
  pub each_once : IsDistinct is_same_game games
  pub fit : AllByRecursion (IsGameFor max_teams) games

abbrev pub has_game : List Pairing → Pairing → Bool
has_game games game = list_any (λ other. is_same_game other game) games

-- the games, and this one if it is new
abbrev pub with_game : List Pairing → Pairing → List Pairing
with_game games game = if has_game games game then games else games ++ game ∷ []

abbrev pub with_games : List Pairing → List Pairing → List Pairing
with_games games [] = games
with_games games (game ∷ more) = with_games (with_game games game) more
