-- What an exchange can change of a cost is at most all of it.
use Rattle.std.proofs.Common.{◌≡◌, ℕ, ◌+◌, ◌≤◌, ◌&&◌, ◌||◌, Bool, true, false, if◌then◌else◌, length}
use Rattle.std.proofs.Common.{slice_get, Option, Some, None, refl, le_refl, arith}
use Rattle.std.proofs.Math.Nat.{mul-le-mul_left}
use Rattle.league.specs.League.{LeagueData}
use Rattle.league.specs.Sets.{has}
use Rattle.league.specs.declared.rule.Rule.{Rule}
use Rattle.league.specs.declared.rule.Weight.{Weight}
use Rattle.league.specs.declared.rule.Weight.TheVariants.{Hard, Soft}
use Rattle.league.proofs.ForCallers.{sum_below_le_each}
use Rattle.fixtures.specs.Games.{Games}
use Rattle.fixtures.specs.TouchedCells.{TouchedCells}
use Rattle.tours.specs.Phased.{is_unphased, unphased, unphased_part}
use Rattle.fixtures.specs.declared.exchanges.Exchange.{Exchange}
use Rattle.rules.proofs.ForCallers.{part_le}
use Rattle.costs.specs.Costs.{hard_penalty, soft_penalty, penalty_of, sum_over_rules, near_cost, cost_of}
use Rattle.league.specs.Sums.{sum_where}
use Rattle.costs.specs.within.CostParts.{alterable_penalties, games_cost, halves_part, rule_part, IsPredicted}
use Rattle.costs.specs.declared.cost.Cost.{Cost}
use Rattle.costs.specs.declared.scope.Scope.{Scope}

both_le : (taken seen : Bool) → (if taken && seen then 1 else 0) ≤ (if seen then 1 else 0)
both_le true seen = le_refl _
both_le false seen = omega arith

unphased_part_le : (g : Games) (teams : ℕ → Bool) → unphased_part g teams ≤ unphased g
unfolding unphased_part unphased
unphased_part_le g teams =
    sum_below_le_each g.teams _ _
    (λ j under. sum_below_le_each j _ _ (λ i lower. both_le (teams i || teams j) (is_unphased g i j)))

pub where_le : (counted : Bool) (part whole : ℕ) → part ≤ whole → (if counted then part else 0) ≤ (if counted then whole else 0)
where_le true part whole le = le
where_le false part whole le = omega arith

-- a rule of any weight adds no more for a lesser deviation
abbrev pub Grows : (Weight → ℕ → ℕ) → Type 0
Grows penalty = (weight : Weight) (m n : ℕ) → m ≤ n → penalty weight m ≤ penalty weight n

pub hard_grows : Grows hard_penalty
hard_grows Hard m n le = le
hard_grows (Soft weight) m n le = omega arith

pub soft_grows : Grows soft_penalty
soft_grows Hard m n le = omega arith
soft_grows (Soft weight) m n le = mul-le-mul_left weight le

pub rule_part_le : (penalty : Weight → ℕ → ℕ) → Grows penalty → (main : TouchedCells) (sides : ℕ) (g : Games) (rule : Option Rule) →
    rule_part penalty main sides g rule ≤ penalty_of penalty g rule
rule_part_le penalty grows main sides g None = omega arith
rule_part_le penalty grows main sides g (Some rule) = grows rule.weight _ _ (part_le g main.teams main.rounds sides rule.body)

alterable_le : (penalty : Weight → ℕ → ℕ) (l : LeagueData) (scope : Scope) (g : Games) →
    sum_where (length l.rules) (has scope.rules) (λ i. penalty_of penalty g (slice_get l.rules i)) ≤ sum_over_rules penalty l.rules g
unfolding sum_over_rules
alterable_le penalty l scope g =
    sum_below_le_each (length l.rules) _ _ (λ i under. if_le (has scope.rules i) (penalty_of penalty g (slice_get l.rules i)))
  where
    if_le : (counted : Bool) (n : ℕ) → (if counted then n else 0) ≤ n
    if_le true n = le_refl n
    if_le false n = omega arith

hard_le : (l : LeagueData) (scope : Scope) (g : Games) →
    halves_part l scope g + (alterable_penalties l scope g).hard + games_cost l g ≤ (cost_of l g).hard
unfolding cost_of
hard_le l scope g = omega (
  arith,
  alterable_le hard_penalty l scope g,
  where_le l.phased _ _ (unphased_part_le g (has scope.main.teams)),
)

of_rules_le : (l : LeagueData) (scope : Scope) (g : Games) → (alterable_penalties l scope g).hard ≤ (cost_of l g).of_rules
unfolding cost_of
of_rules_le l scope g = alterable_le hard_penalty l scope g

soft_le : (l : LeagueData) (scope : Scope) (g : Games) → (alterable_penalties l scope g).soft + near_cost l g ≤ (cost_of l g).soft
unfolding cost_of
soft_le l scope g = omega (arith, alterable_le soft_penalty l scope g)

-- A deviation of 0 adds nothing.

pub hard_nothing : (weight : Weight) → hard_penalty weight 0 ≡ 0
hard_nothing Hard = refl
hard_nothing (Soft weight) = refl

pub soft_nothing : (weight : Weight) → soft_penalty weight 0 ≡ 0
soft_nothing Hard = refl
soft_nothing (Soft weight) = omega arith

-- a predicted cost has all that those rules add which the exchange can alter
module _ (l : LeagueData) (scope : Scope) (g : Games) (exchange : Exchange) (predicted : Cost) (is : IsPredicted l g exchange predicted) where
  pub hard_fits : halves_part l scope g + (alterable_penalties l scope g).hard ≤ predicted.hard
  hard_fits = omega (arith, is.hard, hard_le l scope g)

  pub of_rules_fits : (alterable_penalties l scope g).hard ≤ predicted.of_rules
  of_rules_fits = omega (arith, is.of_rules, of_rules_le l scope g)

  pub soft_fits : (alterable_penalties l scope g).soft ≤ predicted.soft
  soft_fits = omega (arith, is.soft, soft_le l scope g)
