-- The walk on which a league's unit is measured.
use Rattle.std.specs.Prelude.{◌≡◌, ℕ, zero, suc, ◌+◌, ◌-◌, ◌*◌, ◌/◌, ◌==◌, nat_lt, if◌then◌else◌, List, [], ◌∷◌, ◌++◌, length, slice_index, IsPermutation}
use Rattle.std.specs.List.Sorted.{IsNonDecreasing}
use Rattle.rand_core.specs.Stream.{Stream}
use Rattle.rand_pcg.specs.Lcg.{started, increment_of}
use Rattle.rand_pcg.specs.Pcg.{multiplier_64}
use Rattle.league.specs.League.{LeagueData, teams, distance}
use Rattle.league.specs.Starts.{near_at}
use Rattle.league.specs.Sums.{sum_below}
use Rattle.moves.specs.declared.moves.Move.{Move}
use Rattle.fixture_board.specs.declared.change.Entry.{Entry}
use Rattle.costs.specs.Costs.{alike, total_of}
use Rattle.fixture_board.specs.History.{cost_at}
use Rattle.fixture_board.specs.Replies.{greatest}
use Rattle.fixture_board.specs.Trials.{trial_history}
use Rattle.policy.specs.declared.legs.MoveSet.TheVariants.{Loose}
use Rattle.policy.specs.Legs.{kinds_of}
use Rattle.draws.specs.Draws.{drawn_among, each_round, stream_of_generator}
use Rattle.annealing.specs.declared.unit.Unit.{Unit}

-- the sum of the distances of all ordered pairs of teams
unfoldable pub distance_sum : LeagueData → ℕ
distance_sum l = sum_below (teams l) (λ a. sum_below (teams l) (distance l a))

-- how many ordered pairs of two different teams there are
abbrev pub pair_count : LeagueData → ℕ
pair_count l = teams l * (teams l - 1)

-- where a walk is: its history, what the generator will answer, and the changes so far
pub record Walk : Type 0 where
  pub history : List Entry
  pub stream : Stream
  pub changes : List ℕ

abbrev pub apart : ℕ → ℕ → ℕ
apart a b = (a - b) + (b - a)

abbrev pub total_at : LeagueData → List Entry → ℕ
total_at league h = total_of (cost_at league h)

-- the change, if it is one
abbrev pub unless_none : ℕ → List ℕ
unless_none change = if change == 0 then [] else change ∷ []

-- the history with a move, if it can be made
abbrev pub moved_on : LeagueData → List Entry → Move → List Entry
moved_on league h mv = trial_history league 1000 h 0 (record { mv = mv; weights = alike 1; rise = greatest })

-- the walk with a move that was drawn, and what the generator answers after it
abbrev pub walk_with : LeagueData → Walk → Move × Stream → Walk
walk_with league w drawn =
    let next = moved_on league w.history drawn.0 in
    record {
      history = next;
      stream = drawn.1;
      changes = w.changes ++ unless_none (apart (total_at league w.history) (total_at league next));
    }

-- the next move that is drawn
unfoldable pub next_drawn : LeagueData → Stream → Move × Stream
next_drawn league stream = drawn_among (teams league) (kinds_of Loose) (each_round (teams league)) stream

-- before the first move, with the words of the generator 0 of the stream 0
unfoldable pub walk_begun : Walk
walk_begun = record {
  history = [];
  stream = stream_of_generator (started 64 multiplier_64 0 (increment_of 64 0));
  changes = [];
}

-- so many moves were drawn
unfoldable pub walk_after : LeagueData → ℕ → Walk
walk_after league zero = walk_begun
walk_after league (suc n) =
    let before = walk_after league n in walk_with league before (next_drawn league before.stream)

-- the changes of travel and soft together on a walk of a thousand moves
abbrev pub changes_of : LeagueData → List ℕ
changes_of league = (walk_after league 1000).changes

-- the one in the middle of the numbers in order, or 0 if there are none
pub record IsMedian (xs : List ℕ) (median : ℕ) : Type 0 where
  pub sorted : List ℕ
  pub same : IsPermutation xs sorted
  pub in_order : IsNonDecreasing sorted
  pub middle : median ≡ slice_index sorted (length sorted / 2)

-- a sixth of the median, or the mean distance if that is more, or 1 if both are 0
abbrev pub fraction_of : ℕ → ℕ → ℕ → ℕ × ℕ
fraction_of median distances pairs =
    if nat_lt (6 * distances) (median * pairs) then (median, 6)
    else if nat_lt 0 distances then (distances, pairs) else (1, 1)

-- the unit of a league
pub record IsUnitOf (league : LeagueData) (unit : Unit) : Type 0 where
  pub median : ℕ
  pub median_is : IsMedian (changes_of (near_at 0 league)) median
  pub is : (unit.numerator, unit.denominator) ≡ fraction_of median (distance_sum league) (pair_count league)
