-- The table in which a board has the rounds of its pinned games.
use Rattle.std.specs.Prelude.{◌≡◌, ℕ, ◌+◌, ◌*◌, ◌<◌, ◌==◌, ◌&&◌, not, Bool, if◌then◌else◌, List, length, slice_index, slice_set}
use Rattle.league.specs.League.{LeagueData, teams}
use Rattle.league.specs.Limits.{max_teams}
use Rattle.league.specs.Pairs.{has_pair}
use Rattle.league.specs.Starts.{start_of, start_round, keeps, kept_games}
use Rattle.fixtures.specs.declared.game.Game.{Game}
use Rattle.fixtures.specs.Games.{Games, round_of, IsPair}
use Rattle.fixture_board.specs.declared.change.Change.{Change}
use Rattle.fixture_board.specs.declared.change.Change.TheVariants.{Pin, Unpin}
use Rattle.fixture_board.specs.History.{is_pinned}

-- the table has an entry for each pair of teams
abbrev pub pin_entries : ℕ
pin_entries = max_teams * max_teams

abbrev pub pin_index : ℕ → ℕ → ℕ
pin_index home away = home * max_teams + away

-- what it has of a game that isn't pinned
abbrev pub free : ℕ
free = 255

-- the round in which the game of a pair is pinned, or `free`
abbrev pub pin_at : List ℕ → ℕ → ℕ → ℕ
pin_at table home away = slice_index table (pin_index home away)

-- the pairs are those whose games are pinned
pub record ArePinnedPairs (table pairs : List ℕ) : Type 0 where
  pub size : length table ≡ pin_entries
  pub members : (home away : ℕ) → home < max_teams → away < max_teams → has_pair pairs home away ≡ not (pin_at table home away == free)

-- the table has the rounds of the pinned games
abbrev pub ArePinsAt : Games → List Game → List ℕ → Type 0
ArePinsAt g pins table =
    (home away : ℕ) → IsPair g.teams home away →
    pin_at table home away ≡ (if is_pinned pins home away then round_of g home away else free)

-- of the pairs that pass a test, the table has the games that the league keeps, in their rounds of the start
pub record AreBegun (league : LeagueData) (passes : ℕ → ℕ → Bool) (table : List ℕ) : Type 0 where
  pub size : length table ≡ pin_entries
  pub entries : (home away : ℕ) → IsPair (teams league) home away →
      pin_at table home away ≡ (if passes home away && keeps league home away then start_round league home away else free)

-- the table of a new board has the kept games of the start
pub record IsFirstTable (league : LeagueData) (table : List ℕ) : Type 0 where
  pub size : length table ≡ pin_entries
  pub are : ArePinsAt (start_of league) (kept_games league) table

-- the table of pins without a change that was the last
abbrev pub taken_back : List ℕ → Change → List ℕ
taken_back table (Pin game) = slice_set table (pin_index game.home game.away) free
taken_back table (Unpin game) = slice_set table (pin_index game.home game.away) game.round
taken_back table _ = table
