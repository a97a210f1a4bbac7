-- A team's tour of a double round robin: its stops, what it travels, and how often it leads into sets.
use Rattle.std.proofs.Common.{◌≡◌, ℕ, ◌+◌, ◌-◌, ◌*◌, ◌/◌, ◌<◌, ◌≤◌, min, if◌then◌else◌, refl, sym, ◌∙◌, ap, inl, inr, arith, slice_index}
use Rattle.std.proofs.lemmas.Bool.{cases_lt, cond-false}
use Rattle.std.proofs.lemmas.Nat.{div_below}
use Rattle.sets.specs.Limits.{max_teams, round_count}
use Rattle.sets.specs.Sets.{has}
use Rattle.sets.specs.Sums.{count_where}
use Rattle.sets.proofs.ForCallers.{sum_below_same, sum_below_past, has_beyond}
use Rattle.league.specs.League.{LeagueData, distance}
use Rattle.fixtures.specs.Games.{Games, IsDoubleRoundRobin, is_home, cell, stop}
use Rattle.fixtures.proofs.ForCallers.{stop_first, stop_last}
use Rattle.tours.specs.Tours.{tour, leg, leg_count, travel_of}
use Rattle.tours.specs.Streaks.{streaks_of, is_streak}
use Rattle.tours.proofs.stops.Stops.{tour_stop}
use Rattle.bounds.specs.within.Prices.{IsOfOpponents, trips_of}
use Rattle.bounds.specs.within.Entries.{entries_of}
use Rattle.bounds.proofs.Ways.{IsWay, row, games_below, done_and_row, row_at_home}
use Rattle.bounds.proofs.Visits.{visits_each, away_between, away_cell, stops_once, stops_below}
use Rattle.bounds.proofs.Rows.{rows_within}
use Rattle.bounds.proofs.Entries.{entered_enough}
use Rattle.bounds.proofs.Relaxed.{way}

allowed_rows : (g : Games) → IsDoubleRoundRobin g → (i at_most : ℕ) → i < g.teams → streaks_of g at_most i ≡ 0 → (r : ℕ) →
    row i (stop g i) r ≤ at_most
unfolding streaks_of is_streak is_home
allowed_rows g is i at_most i_in none =
    rows_within i (stop g i) (round_count g.teams) at_most (is_home g i)
    (λ q away. (away_between g i q away).1)
    (λ q in_q away. let same : q + 1 - 1 ≡ q = omega arith in
    sym (ap (λ r. (cell g i r).home) same) ∙ (away_cell g is i (q + 1) i_in away).0)
    none

few_rows : (g : Games) → IsDoubleRoundRobin g → (i : ℕ) → i < g.teams → (r : ℕ) → row i (stop g i) r ≤ g.teams - 1
few_rows g is i i_in r = elim (cases_lt (round_count g.teams + 1) r) [
  | inl after ↦ omega (arith, row_at_home i (stop g i) r (stop_last g i r (omega arith)))
  | inr within ↦ omega (
    arith,
    done_and_row i (stop g i) r,
    games_below g.teams i (round_count g.teams) (stop g i) i_in (visits_each g is i i_in) r within,
  )
]

pub is_way : (g : Games) → IsDoubleRoundRobin g → (i at_most : ℕ) → i < g.teams → streaks_of g at_most i ≡ 0 →
    IsWay g.teams i (min at_most (g.teams - 1)) (round_count g.teams) (stop g i)
is_way g is i at_most i_in none = record {
  first = stop_first g i 0 refl;
  last = stop_last g i (round_count g.teams + 1) (omega arith);
  home_in = i_in;
  below = stops_below g is i i_in;
  once = stops_once g is i i_in;
  rows = λ r. omega (arith, allowed_rows g is i at_most i_in none r, few_rows g is i i_in r);
  visits = visits_each g is i i_in;
}

-- the legs of the tour go from stop to stop
pub travel_by_stops : (l : LeagueData) (g : Games) (i : ℕ) → travel_of l g i ≡ way (distance l) (stop g i) (leg_count g)
unfolding travel_of leg
travel_by_stops l g i =
    sum_below_same (leg_count g) (leg l g i) (λ r. distance l (stop g i r) (stop g i (r + 1)))
    (λ r in_r.
    ap (λ from. distance l from (slice_index (tour g i) (r + 1))) (sym (tour_stop g i r (omega arith))) ∙
    ap (distance l (stop g i r)) (sym (tour_stop g i (r + 1) (omega arith))))

quotient_within : (size most entries : ℕ) → 1 ≤ most → size ≤ most * entries → (size + most - 1) / most ≤ entries
quotient_within size most entries some enough =
    let below : (size + most - 1) / most < entries + 1 = div_below (size + most - 1) most (entries + 1) some (omega arith) in
    omega arith

-- a tour without a run leads into a set of opponents at least once for each trip that the set needs
pub trips_entered : (g : Games) → IsDoubleRoundRobin g → (i at_most : ℕ) → i < g.teams → 1 ≤ at_most → streaks_of g at_most i ≡ 0 →
    (set : ℕ) → IsOfOpponents g.teams i set → trips_of (min at_most (g.teams - 1)) set ≤ entries_of g i set
unfolding entries_of
trips_entered g is i at_most i_in some none set opponents =
    quotient_within (count_where max_teams (has set)) most (entries_of g i set) (omega arith)
    (omega (
      arith,
      sum_below_past g.teams max_teams (λ t. if has set t then 1 else 0) is.most
          (λ t from below. cond-false {A = ℕ} (has set t) 1 0 (has_beyond g.teams set t opponents.below from)),
      entered_enough g.teams i most (round_count g.teams) (stop g i) (is_way g is i at_most i_in none) (has set) opponents.away,
    ))
  where
    most : ℕ
    most = min at_most (g.teams - 1)
