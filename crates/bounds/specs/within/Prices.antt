-- Sets of opponents and their prices.
use Rattle.std.specs.Prelude.{◌≡◌, ◌<◌, ◌+◌, ◌-◌, ◌/◌, ◌^◌, ◌&&◌, not, false, Bool, ℕ, List, length, slice_index, if◌then◌else◌}
use Rattle.sets.specs.Limits.{max_teams}
use Rattle.sets.specs.Sets.{has, IsBelow}
use Rattle.sets.specs.Sums.{sum_below, count_where}

-- the parts of a distance in which prices are
abbrev pub scale : ℕ
scale = 2 ^ 16

-- how much longer each leg to an opponent is made, at least by all prices together
abbrev pub longer : ℕ
longer = 2 ^ 48

-- a set of opponents of a team
pub record IsOfOpponents (n home set : ℕ) : Type 0 where
  pub below : IsBelow n set
  pub away : has set home ≡ false

pub record AreOfOpponents (n home : ℕ) (sets : List ℕ) : Type 0 where
  pub each : (k : ℕ) → k < length sets → IsOfOpponents n home (slice_index sets k)

-- how many trips of so many games visit the teams of a set
abbrev pub trips_of : ℕ → ℕ → ℕ
trips_of most set = (count_where max_teams (has set) + most - 1) / most

-- whether a leg leads into a set from outside
abbrev pub leads_into : ℕ → ℕ → ℕ → Bool
leads_into set from to = not (has set from) && has set to

-- the price of the set at an index, if this leg leads into that
abbrev pub price_into : List ℕ → List ℕ → ℕ → ℕ → ℕ → ℕ
price_into sets prices from to k = if leads_into (slice_index sets k) from to then slice_index prices k else 0

-- what a leg is shortened by: the prices of those of the first m sets that it leads into
unfoldable pub discount : List ℕ → List ℕ → ℕ → ℕ → ℕ → ℕ
discount sets prices m from to = sum_below m (price_into sets prices from to)
