-- Bounds on the tours add up to one on the travel.
use Rattle.std.proofs.Common.{ℕ, ◌<◌, ◌≤◌, List, length, slice_index, sym, subst, ap, arith}
use Rattle.sets.specs.Sums.{sum_below}
use Rattle.sets.proofs.ForCallers.{sum_below_le_each}
use Rattle.league.specs.League.{LeagueData, teams}
use Rattle.tours.specs.Tours.{travel, travel_of}
use Rattle.tours.specs.Streaks.{runs_over, streaks_of}
use Rattle.bounds.specs.Bounds.{AreTourBounds, IsBound}
use Rattle.bounds.proofs.Rows.{each_zero}

pub bound_of : (l : LeagueData) (bounds : List ℕ) (total : ℕ) → AreTourBounds l bounds
    → total ≤ sum_below (length bounds) (slice_index bounds) → IsBound l total
unfolding travel runs_over
bound_of l bounds total are within g rr same none =
    omega (
      arith,
      within,
      ap (λ n. sum_below n (slice_index bounds)) are.count,
      ap (λ n. sum_below n (travel_of l g)) same,
      sum_below_le_each (teams l) (slice_index bounds) (travel_of l g)
          (λ team below. are.each team below g rr same
          (each_zero g.teams (streaks_of g l.at_most) none team (subst (λ n. team < n) (sym same) below))),
    )
