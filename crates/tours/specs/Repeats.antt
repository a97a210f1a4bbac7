-- Pairs of teams that meet twice in a row.
use Rattle.std.specs.Prelude.{ℕ, ◌+◌, ◌-◌, ◌&&◌, if◌then◌else◌}
use Rattle.league.specs.Sums.{sum_below, sum_of_pairs}
use Rattle.fixtures.specs.Games.{Games, round_count, meets}

-- how many pairs of teams meet both in a round and in the next
unfoldable pub repeats_after : Games → ℕ → ℕ
repeats_after g round =
    sum_of_pairs g.teams (λ low high. if meets g high low round && meets g high low (round + 1) then 1 else 0)

unfoldable pub repeats : Games → ℕ
repeats g = sum_below (round_count g.teams - 1) (repeats_after g)
