-- What a list of prices shows of a team's tours.
use Rattle.std.proofs.Common.{◌≡◌, ℕ, ◌+◌, ◌-◌, ◌*◌, ◌<◌, ◌≤◌, min, List, length, slice_index, sym, ◌∙◌, subst, arith}
use Rattle.sets.specs.Limits.{round_count}
use Rattle.sets.specs.Sums.{sum_below}
use Rattle.league.specs.League.{LeagueData, teams, distance}
use Rattle.fixtures.specs.Games.{stop}
use Rattle.tours.specs.Tours.{travel_of}
use Rattle.bounds.specs.Bounds.{IsTourBound}
use Rattle.bounds.specs.within.Prices.{scale, longer, discount, trips_of, IsOfOpponents, AreOfOpponents}
use Rattle.bounds.specs.within.Entries.{most_of, whole_leg, entries_of, AreEntered, IsLeastPriced, IsScaledBound}
use Rattle.bounds.specs.within.Tables.{IsOpponent, AreWalks, AreTours}
use Rattle.bounds.proofs.Ways.{IsWay}
use Rattle.bounds.proofs.Relaxed.{no_shorter}
use Rattle.bounds.proofs.Paid.{way_and_paid, paid_within}
use Rattle.bounds.proofs.Seasons.{is_way, travel_by_stops, trips_entered}

pub are_tours : (n home most : ℕ) (leg : ℕ → ℕ → ℕ) (walk : ℕ → ℕ → ℕ → ℕ) (trip tour : ℕ → ℕ) → tour 0 ≡ 0
    → ((games j : ℕ) → games ≤ most → IsOpponent n home j → trip games ≤ walk games j j + leg j home)
    → ((all games : ℕ) → 1 ≤ games → games ≤ most → all + games < n → tour (all + games) ≤ tour all + trip games)
    → AreTours n home most leg walk tour
are_tours n home most leg walk trip tour none trips tours = record {
  none = none;
  trip = λ all games j some within room is_j. omega (arith, tours all games some within room, trips games j within is_j);
}

pub least_priced : (l : LeagueData) (i n most last : ℕ) (leg : ℕ → ℕ → ℕ) (walk : ℕ → ℕ → ℕ → ℕ) (tour : ℕ → ℕ) (sets prices : List ℕ)
    → n ≡ teams l → most ≡ most_of l → last + 1 ≡ n → i < n
    → ((from to : ℕ) → from < n → to < n → leg from to + discount sets prices (length sets) from to ≡ whole_leg l i from to)
    → AreWalks n i most leg walk → AreTours n i most leg walk tour → IsLeastPriced l i sets prices (tour last)
unfolding entries_of
least_priced l i n most last leg walk tour sets prices n_is most_is so_many i_in legs walks tours g is same none =
    omega (
      arith,
      no_shorter n i most rounds leg walk tour (stop g i) way_of walks tours last so_many,
      way_and_paid n i most rounds scale longer (distance l) leg sets prices (length sets) (stop g i) way_of legs last so_many,
      travel_by_stops l g i,
      so_many,
      n_is,
    )
  where
    rounds : ℕ
    rounds = round_count g.teams

    of_league : IsWay (teams l) i (most_of l) (round_count g.teams) (stop g i)
    of_league =
        subst (λ m. IsWay m i (min l.at_most (m - 1)) (round_count g.teams) (stop g i)) same
        (is_way g is i l.at_most (subst (λ m. i < m) (n_is ∙ sym same) i_in) none)

    way_of : IsWay n i most (round_count g.teams) (stop g i)
    way_of =
        subst (λ m. IsWay m i most (round_count g.teams) (stop g i)) (sym n_is)
        (subst (λ m. IsWay (teams l) i m (round_count g.teams) (stop g i)) (sym most_is) of_league)

-- so a bound is what remains with the prices, each as often as a tour leads into its set at least
pub scaled_bound : (l : LeagueData) (i : ℕ) (sets entries prices : List ℕ) (least paid : ℕ) → IsLeastPriced l i sets prices least
    → paid ≤ sum_below (length sets) (λ k. slice_index prices k * slice_index entries k) → (b : ℕ)
    → b ≤ least + paid - longer * (teams l - 1) → IsScaledBound l i sets entries b
scaled_bound l i sets entries prices least paid shown paid_most b within g is same none entered =
    omega (
      arith,
      shown g is same none,
      paid_most,
      within,
      paid_within prices entries (length sets) (λ k. entries_of g i (slice_index sets k)) entered.each,
    )

-- of sets of opponents with the trips that they need it is one of the tour, rounded up
pub tour_bound_of : (l : LeagueData) (i : ℕ) (sets entries : List ℕ) (b : ℕ) → i < teams l → 1 ≤ most_of l
    → AreOfOpponents (teams l) i sets
    → ((k : ℕ) → k < length sets → slice_index entries k ≡ trips_of (most_of l) (slice_index sets k))
    → IsScaledBound l i sets entries b → (rounded : ℕ) → ((whole : ℕ) → b ≤ scale * whole → rounded ≤ whole) → IsTourBound l i rounded
tour_bound_of l i sets entries b i_in some opponents trips shown rounded up g is same none =
    up (travel_of l g i) (shown g is same none entered)
  where
    entered : AreEntered g i sets entries
    entered = record {
      each = λ k below. omega (
        arith,
        trips k below,
        subst (λ m. trips_of (min l.at_most (m - 1)) (slice_index sets k) ≤ entries_of g i (slice_index sets k)) same
            (trips_entered g is i l.at_most (subst (λ m. i < m) (sym same) i_in) (omega arith) none (slice_index sets k)
            (subst (λ m. IsOfOpponents m i (slice_index sets k)) (sym same) (opponents.each k below))),
      );
    }
