-- What no schedule without runs travels less than.
use Rattle.std.specs.Prelude.{◌≡◌, ◌≤◌, ◌<◌, ℕ, List, length, slice_index}
use Rattle.league.specs.League.{LeagueData, teams}
use Rattle.fixtures.specs.Games.{Games, IsDoubleRoundRobin}
use Rattle.tours.specs.Tours.{travel_of, travel}
use Rattle.tours.specs.Streaks.{streaks_of, runs_over}

-- no double round robin of the league's teams in which this team has no run has a shorter tour of it
abbrev pub IsTourBound : LeagueData → ℕ → ℕ → Type 0
IsTourBound l team b =
    (g : Games) → IsDoubleRoundRobin g → g.teams ≡ teams l → streaks_of g l.at_most team ≡ 0 → b ≤ travel_of l g team

-- one for each team
pub record AreTourBounds (l : LeagueData) (bounds : List ℕ) : Type 0 where
  pub count : length bounds ≡ teams l
  pub each : (team : ℕ) → team < teams l → IsTourBound l team (slice_index bounds team)

-- none in which no team has a run travels less
abbrev pub IsBound : LeagueData → ℕ → Type 0
IsBound l b = (g : Games) → IsDoubleRoundRobin g → g.teams ≡ teams l → runs_over g l.at_most ≡ 0 → b ≤ travel l g
