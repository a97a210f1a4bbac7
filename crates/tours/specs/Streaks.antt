-- Long stretches at home or away: the runs of a report.
use Rattle.std.specs.Prelude.{ℕ, ◌+◌, ◌-◌, ◌||◌, not, Bool}
use Rattle.league.specs.Sums.{sum_below, count_where, all_below}
use Rattle.fixtures.specs.Games.{Games, round_count, is_home}

-- whether a team is at home in all of the consecutive rounds, or away in all
unfoldable pub is_streak : Games → ℕ → ℕ → ℕ → Bool
is_streak g team first rounds =
    all_below rounds (λ k. is_home g team (first + k)) || all_below rounds (λ k. not (is_home g team (first + k)))

-- how many windows of so many consecutive rounds there are: none if they are more than all rounds
abbrev pub windows : Games → ℕ → ℕ
windows g rounds = round_count g.teams + 1 - rounds

-- the windows of one round more than allowed that a team spends at home or away
unfoldable pub streaks_of : Games → ℕ → ℕ → ℕ
streaks_of g at_most team = count_where (windows g (at_most + 1)) (λ first. is_streak g team first (at_most + 1))

unfoldable pub runs_over : Games → ℕ → ℕ
runs_over g at_most = sum_below g.teams (streaks_of g at_most)
