-- Words for windows that are counted for many teams at once.
use Rattle.std.specs.Prelude.{◌≡◌, ℕ, ◌+◌, ◌&&◌, ◌==◌, not, nat_lt, List, slice_index}
use Rattle.league.specs.Sets.{has, IsBelow}
use Rattle.league.specs.Sums.{sum_where, count_where}
use Rattle.rules.specs.Deviations.{over}
use Rattle.rules.specs.declared.team_windows.InRows.{InRows}

-- how many of so many rows, from the first on, lack a team
abbrev pub rows_lack : List ℕ → ℕ → ℕ → ℕ → ℕ
rows_lack rows first count t = count_where count (λ k. not (has (slice_index rows (first + k)) t))

-- of some teams those that no row lacks, and those that at most one lacks
pub record IsInRows (teams : ℕ) (lacks : ℕ → ℕ) (in_rows : InRows) : Type 0 where
  pub each : (t : ℕ) → has in_rows.each t ≡ (has teams t && lacks t == 0)
  pub but_one : (t : ℕ) → has in_rows.but_one t ≡ (has teams t && nat_lt (lacks t) 2)
  pub each_below : (m : ℕ) → IsBelow m teams → IsBelow m in_rows.each
  pub but_one_below : (m : ℕ) → IsBelow m teams → IsBelow m in_rows.but_one

-- the rows of a window that have a team, over the most, for each of the teams
abbrev pub over_from : List ℕ → ℕ → ℕ → ℕ → ℕ → ℕ → ℕ
over_from rows teams window most n first =
    sum_where n (has teams) (λ t. over (count_where window (λ k. has (slice_index rows (first + k)) t)) most)
