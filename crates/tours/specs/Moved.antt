-- Games that have another round than at the start.
use Rattle.std.specs.Prelude.{ℕ, ◌&&◌, ◌==◌, not, Bool}
use Rattle.league.specs.League.{LeagueData}
use Rattle.league.specs.Starts.{start_round}
use Rattle.league.specs.Sums.{sum_below, count_where}
use Rattle.fixtures.specs.Games.{Games, round_of}

-- whether the game in which `home` receives `away` has another round than this start gives it
abbrev pub is_moved : (ℕ → ℕ → ℕ) → Games → ℕ → ℕ → Bool
is_moved start g home away = not (home == away) && not (round_of g home away == start home away)

-- how many games have
unfoldable pub moved_from : (ℕ → ℕ → ℕ) → Games → ℕ
moved_from start g = sum_below g.teams (λ home. count_where g.teams (is_moved start g home))

-- how many games have another round than at the start of the league
abbrev pub moved_games : LeagueData → Games → ℕ
moved_games l g = moved_from (start_round l) g
