-- Words for the gaps that FA2 keeps from one schedule to the next.
use Rattle.std.specs.Prelude.{◌≡◌, ℕ, ◌+◌, ◌*◌, ◌<◌, ◌&&◌, ◌||◌, true, List, length, slice_index, slice_index_or}
use Rattle.league.specs.Limits.{max_teams}
use Rattle.league.specs.Sets.{has, IsBelow}
use Rattle.league.specs.Sums.{sum_where}
use Rattle.rules.specs.Deviations.{over}
use Rattle.rules.specs.within.Walked.{mask_in, row_of, worst_apart}
use Rattle.rules.specs.declared.gap_table.GapTable.{GapTable}
use Rattle.rules.specs.declared.known_gaps.KnownGaps.{KnownGaps}
use Rattle.rules.specs.within.HomeTables.{IsHomeTable}

-- the gap of a pair, of which the lower team comes first
abbrev pub gap_at : List ℕ → ℕ → ℕ → ℕ
gap_at gaps lower higher = slice_index gaps (higher * max_teams + lower)

-- a table has by how much the rows of each two of its teams are apart in its slots
pub record IsGapTable (rows : List (List ℕ)) (table : GapTable) : Type 0 where
  pub len : length table.gaps ≡ max_teams * max_teams
  pub below : IsBelow max_teams table.teams
  pub mask : (r : ℕ) → slice_index table.mask r ≡ mask_in table.slots r
  pub gaps : (i j : ℕ) → i < j → has table.teams i ≡ true → has table.teams j ≡ true →
      gap_at table.gaps i j ≡ worst_apart table.mask (row_of rows i) (row_of rows j)

-- the gaps of a team and of each lower one of a set, over the most, if one of the two is in another set
abbrev pub over_of_gaps : List ℕ → ℕ → ℕ → ℕ → ℕ → ℕ
over_of_gaps gaps teams set most team =
    sum_where team (λ o. has teams o && (has set o || has set team)) (λ o. over (gap_at gaps o team) most)

-- how many tables are kept
abbrev pub table_count : ℕ
table_count = 16

-- the tables have gaps of the rows
pub record AreKnownGaps (known : KnownGaps) : Type 0 where
  pub homes : IsHomeTable known.homes
  pub len : length known.tables ≡ table_count
  pub tables : (k : ℕ) (d : GapTable) → k < table_count → IsGapTable known.homes.rows (slice_index_or known.tables k d)
