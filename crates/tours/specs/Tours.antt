-- The tour of each team, and how far the teams travel (Easton, Nemhauser, Trick 2001).
use Rattle.std.specs.Prelude.{ℕ, ◌+◌, List, [], ◌∷◌, ◌++◌, map, slice_index}
use Rattle.std.specs.List.{range_with_len}
use Rattle.league.specs.League.{LeagueData, distance}
use Rattle.league.specs.Sums.{sum_below}
use Rattle.fixtures.specs.Games.{Games, round_count, place}

-- a team's places, from its home to its home
abbrev pub tour : Games → ℕ → List ℕ
tour g team = team ∷ map (place g team) (range_with_len 0 (round_count g.teams)) ++ team ∷ []

-- a leg for each round, and the leg home
abbrev pub leg_count : Games → ℕ
leg_count g = round_count g.teams + 1

-- the distance between two neighbouring places of the tour
unfoldable pub leg : LeagueData → Games → ℕ → ℕ → ℕ
leg l g team r = distance l (slice_index (tour g team) r) (slice_index (tour g team) (r + 1))

unfoldable pub travel_of : LeagueData → Games → ℕ → ℕ
travel_of l g team = sum_below (leg_count g) (leg l g team)

unfoldable pub travel : LeagueData → Games → ℕ
travel l g = sum_below g.teams (travel_of l g)
