-- The schedule that a league starts with, and the games of it that are kept.
use Rattle.std.specs.Prelude.{◌≡◌, ℕ, zero, suc, ◌||◌, Bool, true, false, if◌then◌else◌, List, [], ◌∷◌, ◌++◌}
use Rattle.fixtures.specs.declared.game.Game.{Game}
use Rattle.fixtures.specs.Games.{Games, games, IsPair}
use Rattle.sets.specs.Pairs.{has_pair, no_pairs, with_pair}
use Rattle.league.specs.declared.origins.Start.TheVariants.{Fide, Given}
use Rattle.league.specs.declared.origins.Start.{Start}
use Rattle.league.specs.League.{LeagueData, teams}
use Rattle.league.specs.Origins.{round_at_start}

-- the round in which `home` receives `away` at the start
abbrev pub start_round : LeagueData → ℕ → ℕ → ℕ
start_round l = round_at_start (teams l) l.origin.start

abbrev pub start_of : LeagueData → Games
start_of l = games (teams l) (λ home away. start_round l home away)

-- whether the start is the Berger table in FIDE's order
abbrev pub is_fide : Start → Bool
is_fide Fide = true
is_fide _ = false

-- whether the start is a schedule of its own
abbrev pub is_given : Start → Bool
is_given (Given g) = true
is_given _ = false

-- whether the game in which `home` receives `away` is kept
abbrev pub keeps : LeagueData → ℕ → ℕ → Bool
keeps l home away = has_pair l.origin.kept home away

-- the game of a pair, in the round that it has at the start
abbrev pub start_game : LeagueData → ℕ → ℕ → Game
start_game l home away = record { round = start_round l home away; home = home; away = away }

-- the games of a home team that are kept, against the teams below m
unfoldable pub kept_at : LeagueData → ℕ → ℕ → List Game
kept_at l home zero = []
kept_at l home (suc m) = kept_at l home m ++ (if keeps l home m then start_game l home m ∷ [] else [])

-- those of the home teams below m
unfoldable pub kept_below : LeagueData → ℕ → List Game
kept_below l zero = []
kept_below l (suc m) = kept_below l m ++ kept_at l m (teams l)

-- the games of the start that the league keeps
unfoldable pub kept_games : LeagueData → List Game
kept_games l = kept_below l (teams l)

-- the league that begins at a schedule, and keeps none of its games
abbrev pub beginning_at : Games → LeagueData → LeagueData
beginning_at g l = record l { origin = record l.origin { start = Given g; kept = no_pairs } }

-- the league that keeps one game more
abbrev pub keeping : ℕ → ℕ → LeagueData → LeagueData
keeping home away l = record l { origin = record l.origin { kept = with_pair l.origin.kept home away } }

-- the league in which leaving the start has this price
abbrev pub near_at : ℕ → LeagueData → LeagueData
near_at weight l = record l { origin = record l.origin { near = weight } }

-- the second league is the first that keeps besides the games of the start that pass a test
pub record KeepsMore (passes : ℕ → ℕ → Bool) (l m : LeagueData) : Type 0 where
  pub same : m ≡ record l { origin = record l.origin { kept = m.origin.kept } }
  pub kept : (home away : ℕ) → IsPair (teams l) home away → keeps m home away ≡ (keeps l home away || passes home away)
