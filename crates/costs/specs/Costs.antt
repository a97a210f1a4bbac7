-- What a schedule costs in a league.
use Rattle.std.specs.Prelude.{◌≡◌, ℕ, ◌+◌, ◌*◌, ◌^◌, ◌<◌, ◌≤◌, if◌then◌else◌, List, length, slice_get, Option, Some, None}
use Rattle.league.specs.League.{LeagueData}
use Rattle.league.specs.Sums.{sum_below}
use Rattle.league.specs.declared.rule.Rule.{Rule}
use Rattle.league.specs.declared.rule.Weight.{Weight}
use Rattle.league.specs.declared.rule.Weight.TheVariants.{Hard, Soft}
use Rattle.fixtures.specs.Games.{Games}
use Rattle.tours.specs.Moved.{moved_games}
use Rattle.tours.specs.Tours.{travel}
use Rattle.tours.specs.Streaks.{runs_over}
use Rattle.tours.specs.Repeats.{repeats}
use Rattle.tours.specs.Phased.{unphased}
use Rattle.rules.specs.Deviations.{deviation}
use Rattle.costs.specs.declared.cost.Cost.{Cost}
use Rattle.costs.specs.declared.weights.Weights.{Weights}

-- what a deviation of a rule of this weight adds to hard
abbrev pub hard_penalty : Weight → ℕ → ℕ
hard_penalty Hard deviation = deviation
hard_penalty (Soft weight) deviation = 0

-- what it adds to soft
abbrev pub soft_penalty : Weight → ℕ → ℕ
soft_penalty Hard deviation = 0
soft_penalty (Soft weight) deviation = weight * deviation

-- what one rule adds, if there is one
abbrev pub penalty_of : (Weight → ℕ → ℕ) → Games → Option Rule → ℕ
penalty_of penalty g None = 0
penalty_of penalty g (Some rule) = penalty rule.weight (deviation g rule.body)

-- the sum over the rules, by their indices
unfoldable pub sum_over_rules : (Weight → ℕ → ℕ) → List Rule → Games → ℕ
sum_over_rules penalty rules g = sum_below (length rules) (λ i. penalty_of penalty g (slice_get rules i))

-- what is counted in a phased league alone
abbrev pub where_phased : LeagueData → ℕ → ℕ
where_phased l count = if l.phased then count else 0

-- what is counted unless the league's repeats are free
abbrev pub unless_free : LeagueData → ℕ → ℕ
unless_free l count = if l.free_repeats then 0 else count

-- what the games cost that have another round than at the start
abbrev pub near_cost : LeagueData → Games → ℕ
near_cost l g = l.origin.near * moved_games l g

-- travel as it is; hard: streaks, repeats unless they are free, the deviations of hard rules, and in a phased league the pairs
-- of teams with both games in one half; of these those of rules; soft: the weighted deviations of soft rules, and what leaving the start costs
unfoldable pub cost_of : LeagueData → Games → Cost
cost_of l g = record {
  travel = travel l g;
  hard = runs_over g l.at_most + unless_free l (repeats g) + sum_over_rules hard_penalty l.rules g + where_phased l (unphased g);
  of_rules = sum_over_rules hard_penalty l.rules g;
  soft = sum_over_rules soft_penalty l.rules g + near_cost l g;
}

-- what is compared if hard limits may be broken, with these weights for each breach of one, and for each of a rule beside that
abbrev pub score_by : Weights → Cost → ℕ
score_by weights cost = cost.travel + cost.soft + weights.breach * cost.hard + weights.rule * cost.of_rules

-- a score with these weights fits in its number
pub record AreWeights (weights : Weights) : Type 0 where
  pub positive : 1 ≤ weights.breach
  pub fit : weights.breach + weights.rule < 2 ^ 32

-- by these all breaches weigh the same
abbrev pub alike : ℕ → Weights
alike breach = record { breach = breach; rule = 0 }

-- the score by the league's weight
abbrev pub score_of : LeagueData → Cost → ℕ
score_of l cost = cost.travel + cost.soft + l.hard_weight * cost.hard

-- what is compared among schedules that break none
abbrev pub total_of : Cost → ℕ
total_of cost = cost.travel + cost.soft

-- the cost of the games if their score by these weights is at most this, and none if it is more
abbrev pub IsCostWithin : LeagueData → Weights → ℕ → Games → Option Cost → Type 0
IsCostWithin l weights limit g (Some cost) = (cost ≡ cost_of l g) × (score_by weights cost ≤ limit)
IsCostWithin l weights limit g None = limit < score_by weights (cost_of l g)

-- no score of a league's schedules by its own weight reaches this
abbrev pub score_limit : ℕ
score_limit = 10 ^ 16
