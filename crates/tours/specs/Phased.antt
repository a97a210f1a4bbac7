-- Pairs of teams that play both their games in one half of the season.
use Rattle.std.specs.Prelude.{ℕ, ◌-◌, ◌||◌, ◌&&◌, Bool, nat_lt, if◌then◌else◌}
use Rattle.std.specs.Bool.{beq}
use Rattle.league.specs.Sums.{sum_of_pairs}
use Rattle.fixtures.specs.Games.{Games, round_of}

-- whether a game is in the first half of the season
abbrev pub is_early : Games → ℕ → ℕ → Bool
is_early g home away = nat_lt (round_of g home away) (g.teams - 1)

-- whether the two games of a pair are in the same half
unfoldable pub is_unphased : Games → ℕ → ℕ → Bool
is_unphased g i j = beq (is_early g i j) (is_early g j i)

unfoldable pub unphased : Games → ℕ
unphased g = sum_of_pairs g.teams (λ i j. if is_unphased g i j then 1 else 0)

-- those with a team of the set
unfoldable pub unphased_part : Games → (ℕ → Bool) → ℕ
unphased_part g teams = sum_of_pairs g.teams (λ i j. if (teams i || teams j) && is_unphased g i j then 1 else 0)
