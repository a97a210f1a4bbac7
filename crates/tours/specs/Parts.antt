-- The parts of travel, streaks and repeats that a change can alter.
use Rattle.std.specs.Prelude.{ℕ, ◌+◌, ◌-◌, ◌&&◌, ◌||◌, ◌==◌, not, nat_lt, Bool}
use Rattle.league.specs.League.{LeagueData}
use Rattle.league.specs.Sums.{sum_where, count_where, any_below}
use Rattle.fixtures.specs.Games.{Games, round_count}
use Rattle.tours.specs.Tours.{leg_count, leg}
use Rattle.tours.specs.Streaks.{windows, is_streak}
use Rattle.tours.specs.Repeats.{repeats_after}

-- whether one of the two rounds that leg r lies between is in the set
unfoldable pub touches_leg : Games → (ℕ → Bool) → ℕ → Bool
touches_leg g rounds r = (not (r == 0) && rounds (r - 1)) || (nat_lt r (round_count g.teams) && rounds r)

-- the legs of a team that touch a round of the set
unfoldable pub travel_part_of : LeagueData → Games → (ℕ → Bool) → ℕ → ℕ
travel_part_of l g rounds team = sum_where (leg_count g) (touches_leg g rounds) (leg l g team)

-- the legs of the teams of the first set that touch a round of the second
unfoldable pub travel_part : LeagueData → Games → (ℕ → Bool) → (ℕ → Bool) → ℕ
travel_part l g teams rounds = sum_where g.teams teams (travel_part_of l g rounds)

-- whether one of the consecutive rounds is in the set
unfoldable pub touches_window : (ℕ → Bool) → ℕ → ℕ → Bool
touches_window set first rounds = any_below rounds (λ k. set (first + k))

-- the streaks of a team that touch a round of the set
unfoldable pub runs_part_of : Games → ℕ → (ℕ → Bool) → ℕ → ℕ
runs_part_of g at_most rounds team =
    count_where (windows g (at_most + 1)) (λ first. touches_window rounds first (at_most + 1) &&
    is_streak g team first (at_most + 1))

-- the streaks of the teams of the first set that touch a round of the second
unfoldable pub runs_part : Games → ℕ → (ℕ → Bool) → (ℕ → Bool) → ℕ
runs_part g at_most teams rounds = sum_where g.teams teams (runs_part_of g at_most rounds)

-- the repeats that have one of their two rounds in the set
unfoldable pub repeats_part : Games → (ℕ → Bool) → ℕ
repeats_part g rounds = sum_where (round_count g.teams - 1) (λ r. rounds r || rounds (r + 1)) (repeats_after g)
