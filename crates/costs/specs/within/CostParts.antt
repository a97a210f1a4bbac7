-- What of the costs an exchange can change, counted on the schedule before it or after it. `main` has its main teams and
-- their rounds.
use Rattle.std.specs.Prelude.{◌≡◌, ℕ, ◌+◌, ◌≤◌, ◌||◌, Bool, true, false}
use Rattle.std.specs.Prelude.{List, length, slice_get, Option, Some, None}
use Rattle.league.specs.League.{LeagueData}
use Rattle.league.specs.Sets.{has, IsBelow}
use Rattle.league.specs.Sums.{sum_below, sum_where}
use Rattle.league.specs.declared.rule.Rule.{Rule}
use Rattle.league.specs.declared.rule.Weight.{Weight}
use Rattle.fixtures.specs.Games.{Games}
use Rattle.fixtures.specs.TouchedCells.{TouchedCells}
use Rattle.fixtures.specs.declared.exchanges.Exchange.{Exchange}
use Rattle.fixtures.specs.Exchanges.{exchanged_by, IsExchange, main_cells, flipping_team}
use Rattle.tours.specs.Tours.{travel}
use Rattle.tours.specs.Streaks.{runs_over}
use Rattle.tours.specs.Repeats.{repeats}
use Rattle.tours.specs.Phased.{unphased_part}
use Rattle.rules.specs.Laws.{SidesAreMain}
use Rattle.rules.specs.Parts.{deviation_part}
use Rattle.rule_index.specs.Alterable.{is_alterable_at}
use Rattle.costs.specs.Costs.{cost_of, hard_penalty, near_cost, penalty_of, soft_penalty, unless_free, where_phased}
use Rattle.costs.specs.declared.cost.Cost.{Cost}
use Rattle.costs.specs.declared.penalties.Penalties.{Penalties}
use Rattle.costs.specs.declared.scope.Scope.{Scope}

-- what the scope says of its exchange is so on the schedule before it
pub record IsScope (g : Games) (scope : Scope) : Type 0 where
  pub can_be_made : IsExchange g scope.attempt.exchange.now
  pub main : scope.main ≡ main_cells scope.attempt.exchange.now
  pub flipping : (t : ℕ) → has scope.flipping t ≡ flipping_team g scope.attempt.exchange.now t

-- one of all is counted first, next or last, and not twice
pub record IsInOne (all first next last : Bool) : Type 0 where
  pub one : all ≡ (first || (next || last))
  pub first_apart : first ≡ true → (next || last) ≡ false
  pub next_apart : next ≡ true → last ≡ false

-- what the scope says of the league's rules: those that the exchange can alter, each of which is counted first, next or last
pub record KnowsRules (l : LeagueData) (scope : Scope) : Type 0 where
  pub sides : SidesAreMain scope.main.teams scope.flipping
  pub below : IsBelow (length l.rules) scope.rules
  pub rules : (i : ℕ) → has scope.rules i ≡ is_alterable_at l.rules scope.main.teams scope.main.rounds i
  pub first_below : IsBelow (length l.rules) scope.first
  pub next_below : IsBelow (length l.rules) scope.next
  pub last_below : IsBelow (length l.rules) scope.last
  pub each : (i : ℕ) → IsInOne (has scope.rules i) (has scope.first i) (has scope.next i) (has scope.last i)

-- the hard costs that no rule asks for, but for pairs in one half: streaks, and repeats unless they are free
abbrev pub games_cost : LeagueData → Games → ℕ
games_cost l g = runs_over g l.at_most + unless_free l (repeats g)

-- of what one rule adds, if there is one
abbrev pub rule_part : (Weight → ℕ → ℕ) → TouchedCells → ℕ → Games → Option Rule → ℕ
rule_part penalty main sides g None = 0
rule_part penalty main sides g (Some rule) = penalty rule.weight (deviation_part g main.teams main.rounds sides rule.body)

-- the sum over the rules, by their indices
unfoldable pub rules_part : (Weight → ℕ → ℕ) → List Rule → TouchedCells → ℕ → Games → ℕ
rules_part penalty rules main sides g =
    sum_below (length rules) (λ i. rule_part penalty main sides g (slice_get rules i))

-- the sums over the rules of a set
abbrev pub parts_of : LeagueData → Scope → ℕ → Games → Penalties
parts_of l scope set g = record {
  hard = sum_where (length l.rules) (has set) (λ i. rule_part hard_penalty scope.main scope.flipping g (slice_get l.rules i));
  soft = sum_where (length l.rules) (has set) (λ i. rule_part soft_penalty scope.main scope.flipping g (slice_get l.rules i));
}

-- of the pairs with both games in one half, which count in a phased league
abbrev pub halves_part : LeagueData → Scope → Games → ℕ
halves_part l scope g = where_phased l (unphased_part g (has scope.main.teams))

-- of what all rules add
abbrev pub penalties_part : LeagueData → Scope → Games → Penalties
penalties_part l scope g = record {
  hard = rules_part hard_penalty l.rules scope.main scope.flipping g;
  soft = rules_part soft_penalty l.rules scope.main scope.flipping g;
}

-- of all that those rules add which the exchange can alter
abbrev pub alterable_penalties : LeagueData → Scope → Games → Penalties
alterable_penalties l scope g = record {
  hard = sum_where (length l.rules) (has scope.rules) (λ i. penalty_of hard_penalty g (slice_get l.rules i));
  soft = sum_where (length l.rules) (has scope.rules) (λ i. penalty_of soft_penalty g (slice_get l.rules i));
}

-- a cost with pairs in one half that it lacks
abbrev pub with_halves : Cost → ℕ → Cost
with_halves rest halves = record rest { hard = rest.hard + halves }

-- a cost with penalties of rules that it lacks
abbrev pub with_penalties : Cost → Penalties → Cost
with_penalties rest penalties = record {
  travel = rest.travel;
  hard = rest.hard + penalties.hard;
  of_rules = rest.of_rules + penalties.hard;
  soft = rest.soft + penalties.soft;
}

-- with the pairs and the penalties that the exchange can change, counted after it, this is the cost after it
abbrev pub IsRest : LeagueData → Scope → Games → Cost → Type 0
IsRest l scope after rest = with_penalties (with_halves rest (halves_part l scope after)) (penalties_part l scope after) ≡ cost_of l after

-- with what the exchange can alter of the rules of a set, this costs no more than the schedule
pub record IsWithin (l : LeagueData) (scope : Scope) (set : ℕ) (g : Games) (cost : Cost) : Type 0 where
  pub travel : cost.travel ≡ (cost_of l g).travel
  pub hard : cost.hard + (parts_of l scope set g).hard ≤ (cost_of l g).hard
  pub of_rules : cost.of_rules + (parts_of l scope set g).hard ≤ (cost_of l g).of_rules
  pub soft : cost.soft + (parts_of l scope set g).soft ≤ (cost_of l g).soft

-- travel, streaks, repeats and what leaving the start costs as they are after the exchange, and all else as it is before it
pub record IsPredicted (l : LeagueData) (g : Games) (exchange : Exchange) (predicted : Cost) : Type 0 where
  pub travel_is : predicted.travel ≡ travel l (exchanged_by g exchange)
  pub hard : predicted.hard + games_cost l g ≡ (cost_of l g).hard + games_cost l (exchanged_by g exchange)
  pub of_rules : predicted.of_rules ≡ (cost_of l g).of_rules
  pub soft : predicted.soft + near_cost l g ≡ (cost_of l g).soft + near_cost l (exchanged_by g exchange)
