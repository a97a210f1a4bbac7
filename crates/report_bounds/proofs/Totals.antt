-- A total is no less than the travel in it, and without breaches there is no run.
use Rattle.std.proofs.Common.{◌≡◌, ◌≤◌, ℕ, arith}
use Rattle.league.specs.League.{LeagueData, teams}
use Rattle.fixtures.specs.Games.{Games, IsDoubleRoundRobin}
use Rattle.bounds.specs.Bounds.{IsBound}
use Rattle.costs.specs.Costs.{cost_of, total_of}
use Rattle.tours.specs.Streaks.{runs_over}

pub bound_below : (l : LeagueData) (b : ℕ) (g : Games) → IsBound l b → IsDoubleRoundRobin g → g.teams ≡ teams l
    → (cost_of l g).hard ≡ 0 → b ≤ total_of (cost_of l g)
unfolding cost_of
bound_below l b g is rr same feasible =
    let no_run : runs_over g l.at_most ≡ 0 = omega (arith, feasible) in
    omega (arith, is g rr same no_run)
