-- How often tours lead into sets of opponents, and what prices of these show.
use Rattle.std.specs.Prelude.{◌≡◌, ◌<◌, ◌≤◌, ◌+◌, ◌-◌, ◌*◌, ◌==◌, min, ℕ, List, length, slice_index, if◌then◌else◌}
use Rattle.sets.specs.Sums.{sum_below, count_where}
use Rattle.league.specs.League.{LeagueData, teams, distance}
use Rattle.fixtures.specs.Games.{Games, IsDoubleRoundRobin, stop}
use Rattle.tours.specs.Tours.{leg_count, travel_of}
use Rattle.tours.specs.Streaks.{streaks_of}
use Rattle.bounds.specs.within.Prices.{scale, longer, leads_into}

-- the most games of a trip: as many as the league allows in a row, and no more than opponents
abbrev pub most_of : LeagueData → ℕ
most_of l = min l.at_most (teams l - 1)

-- a leg of a team before it is shortened
abbrev pub whole_leg : LeagueData → ℕ → ℕ → ℕ → ℕ
whole_leg l home from to = scale * distance l from to + (if to == home then 0 else longer)

-- how often a team's tour leads into a set
unfoldable pub entries_of : Games → ℕ → ℕ → ℕ
entries_of g team set = count_where (leg_count g) (λ r. leads_into set (stop g team r) (stop g team (r + 1)))

-- into each of the sets at least as often as is said of it
pub record AreEntered (g : Games) (team : ℕ) (sets entries : List ℕ) : Type 0 where
  pub each : (k : ℕ) → k < length sets → slice_index entries k ≤ entries_of g team (slice_index sets k)

-- no tour of the team without a run is shorter, in parts of a distance, with each leg to an opponent longer, and each leg shorter by the
-- prices of the sets that it leads into
abbrev pub IsLeastPriced : LeagueData → ℕ → List ℕ → List ℕ → ℕ → Type 0
IsLeastPriced l home sets prices least =
    (g : Games) → IsDoubleRoundRobin g → g.teams ≡ teams l → streaks_of g l.at_most home ≡ 0 →
    least + sum_below (length sets) (λ k. slice_index prices k * entries_of g home (slice_index sets k)) ≤
    scale * travel_of l g home + longer * (teams l - 1)

-- in parts of a distance: no tour of the team without a run that leads into each set so often is shorter
abbrev pub IsScaledBound : LeagueData → ℕ → List ℕ → List ℕ → ℕ → Type 0
IsScaledBound l home sets entries b =
    (g : Games) → IsDoubleRoundRobin g → g.teams ≡ teams l → streaks_of g l.at_most home ≡ 0 → AreEntered g home sets entries →
    b ≤ scale * travel_of l g home
