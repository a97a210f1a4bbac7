-- Words for the home games that FA2 keeps from one schedule to the next.
use Rattle.std.specs.Prelude.{◌≡◌, ℕ, ◌+◌, ◌<◌, ◌&&◌, ◌||◌, Bool, true, not, if◌then◌else◌, List, length, slice_index}
use Rattle.league.specs.Limits.{max_teams}
use Rattle.league.specs.Sets.{has}
use Rattle.league.specs.Sums.{count_where, sum_where}
use Rattle.fixtures.specs.Games.{Games, round_count}
use Rattle.rules.specs.Deviations.{over, home_games}
use Rattle.rules.specs.within.Walked.{row_length, row_of, worst_apart}
use Rattle.rules.specs.declared.home_table.HomeTable.{HomeTable}

-- a row has, in each round, the home games up to and with it of a team that is at home in the rounds that pass a test
pub record IsHomeRow (home : ℕ → Bool) (row : List ℕ) : Type 0 where
  pub len : length row ≡ row_length
  pub counts : (r : ℕ) → r < row_length → slice_index row r ≡ count_where (r + 1) home

-- whether a team is at home in a round, if it is to be at home in a set of rounds, and some are left in which it has yet to flip
abbrev pub is_home_with : ℕ → ℕ → ℕ → Bool
is_home_with homes left r = if has left r then not (has homes r) else has homes r

-- a table has a row for each team, by the rounds in which it is at home
pub record IsHomeTable (table : HomeTable) : Type 0 where
  pub homes_len : length table.homes ≡ max_teams
  pub rows_len : length table.rows ≡ max_teams
  pub rows : (t : ℕ) → t < max_teams → IsHomeRow (has (slice_index table.homes t)) (row_of table.rows t)

-- the rows of some teams have the home games of a schedule
abbrev pub AreRowsOf : Games → (ℕ → Bool) → List (List ℕ) → Type 0
AreRowsOf g teams rows =
    (t r : ℕ) → teams t ≡ true → r < round_count g.teams → slice_index (row_of rows t) r ≡ home_games g t r

-- by how much the rows of a team and of each lower one of a set are apart in a mask, over the most, if one of the two is in another set
abbrev pub over_of_rows : List (List ℕ) → List ℕ → ℕ → ℕ → ℕ → ℕ → ℕ
over_of_rows rows mask teams set most team =
    sum_where team (λ o. has teams o && (has set o || has set team))
    (λ o. over (worst_apart mask (row_of rows o) (row_of rows team)) most)
