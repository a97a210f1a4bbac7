-- An exchange changes no more of the costs than their parts.
use Rattle.std.proofs.Common.{◌≡◌, ℕ, ◌+◌, ◌*◌, ◌^◌, ◌<◌, ◌≤◌, Bool, true, false, if◌then◌else◌, length, slice_get, Option, Some, None}
use Rattle.std.proofs.Common.{IfSome, refl, sym, ◌∙◌, ap, subst, arith, rules}
use Rattle.std.specs.Option.{IsSome}
use Rattle.std.proofs.Math.Nat.{mul-add, mul-le-mul_left}
use Rattle.std.proofs.Math.Path.{fun_ext}
use Rattle.std.proofs.lemmas.List.Elements.{All-from_recursion, All-get_or}
use Rattle.std.proofs.lemmas.Option.{slice_get_within, get_or_from_slice_get}
use Rattle.league.specs.League.{LeagueData, teams, IsLeague}
use Rattle.league.specs.RuleLimits.{IsRuleFor, IsBodyFor}
use Rattle.league.specs.Sets.{has}
use Rattle.league.specs.declared.rule.Rule.{Rule}
use Rattle.league.specs.declared.rule.Weight.{Weight}
use Rattle.league.specs.declared.rule.Weight.TheVariants.{Hard, Soft}
use Rattle.league.specs.Sums.{sum_below}
use Rattle.league.proofs.ForCallers.{sum_below_none, sum_below_balance}
use Rattle.fixtures.specs.Changes.{DiffersOnlyAround, DiffersOnlyAt, box}
use Rattle.fixtures.specs.Games.{Games, IsDoubleRoundRobin, is_home}
use Rattle.fixtures.specs.TouchedCells.{TouchedCells}
use Rattle.fixtures.specs.declared.exchanges.Exchange.{Exchange}
use Rattle.fixtures.specs.Exchanges.{exchanged_by, main_cells}
use Rattle.fixtures.proofs.ForCallers.{each_undone, each_around, each_sides}
use Rattle.tours.specs.Streaks.{runs_over}
use Rattle.tours.specs.Phased.{unphased, unphased_part}
use Rattle.tours.specs.Tours.{travel}
use Rattle.tours.proofs.ForCallers.{unphased_balance_around}
use Rattle.league.specs.declared.rule.RuleBody.{RuleBody}
use Rattle.rules.specs.Deviations.{deviation}
use Rattle.rules.specs.Parts.{deviation_part}
use Rattle.rules.proofs.ForCallers.{deviation_balance}
use Rattle.costs.specs.Costs.{hard_penalty, soft_penalty, penalty_of, sum_over_rules, where_phased, cost_of, score_by, score_of}
use Rattle.costs.specs.Costs.{near_cost, score_limit, AreWeights, IsCostWithin}
use Rattle.costs.specs.within.CostParts.{games_cost, halves_part, rule_part, rules_part, penalties_part, with_halves, with_penalties, IsRest, IsScope, IsPredicted}
use Rattle.costs.specs.declared.scope.Scope.{Scope}
use Rattle.costs.specs.declared.cost.Cost.{Cost}
use Rattle.costs.specs.declared.penalties.Penalties.{Penalties}
use Rattle.costs.specs.declared.weights.Weights.{Weights}
use Rattle.costs.proofs.Scores.{cost_travel, exchanged-teams, score_below, score_fits}

-- what differs

around : (g : Games) (scope : Scope) → IsScope g scope →
    DiffersOnlyAround g (exchanged_by g scope.attempt.exchange.now) (has scope.main.teams) (has scope.main.rounds)
around g scope is =
    subst (λ (main : TouchedCells). DiffersOnlyAround g (exchanged_by g scope.attempt.exchange.now) (has main.teams) (has main.rounds))
    (sym is.main) (each_around g scope.attempt.exchange.now is.can_be_made)

sides : (g : Games) (scope : Scope) → IsScope g scope →
    DiffersOnlyAt is_home g (exchanged_by g scope.attempt.exchange.now) (box (has scope.flipping) (has scope.main.rounds))
sides g scope is =
    subst (λ (main : TouchedCells). DiffersOnlyAt is_home g (exchanged_by g scope.attempt.exchange.now)
    (box (has scope.flipping) (has main.rounds)))
    (sym is.main)
    (subst (λ teams. DiffersOnlyAt is_home g (exchanged_by g scope.attempt.exchange.now)
    (box teams (has (main_cells scope.attempt.exchange.now).rounds)))
    (sym (fun_ext is.flipping)) (each_sides g scope.attempt.exchange.now is.can_be_made))

pub round_robin_after : (g : Games) (scope : Scope) → IsScope g scope → IsDoubleRoundRobin (exchanged_by g scope.attempt.exchange.now)
round_robin_after g scope is = (each_undone g scope.attempt.exchange.now is.can_be_made).again.round_robin

-- what the exchange adds to the part of a deviation, it adds to the deviation
pub body_balances : (g : Games) (scope : Scope) → IsScope g scope → (body : RuleBody) → IsBodyFor g.teams body →
    deviation (exchanged_by g scope.attempt.exchange.now) body + deviation_part g scope.main.teams scope.main.rounds scope.flipping body ≡
    deviation g body + deviation_part (exchanged_by g scope.attempt.exchange.now) scope.main.teams scope.main.rounds scope.flipping body
body_balances g scope is =
    deviation_balance g (exchanged_by g scope.attempt.exchange.now) is.can_be_made.round_robin (round_robin_after g scope is)
    scope.main.teams scope.main.rounds scope.flipping (around g scope is) (sides g scope is)

-- a count that is taken or not
counted_balances : (taken : Bool) (new old before after : ℕ) → new + before ≡ old + after →
    (if taken then new else 0) + (if taken then before else 0) ≡ (if taken then old else 0) + (if taken then after else 0)
counted_balances true new old before after balance = balance
counted_balances false new old before after balance = refl

-- rules

-- a rule of any weight adds as much more as its deviation is more
abbrev pub IsEven : (Weight → ℕ → ℕ) → Type 0
IsEven penalty = (weight : Weight) (new before old after : ℕ) → new + before ≡ old + after →
    penalty weight new + penalty weight before ≡ penalty weight old + penalty weight after

pub hard_even : IsEven hard_penalty
hard_even Hard new before old after balance = balance
hard_even (Soft weight) new before old after balance = refl

pub soft_even : IsEven soft_penalty
soft_even Hard new before old after balance = refl
soft_even (Soft weight) new before old after balance =
    omega (arith, mul-add weight new before, mul-add weight old after, ap (λ n. weight * n) balance)

rule_balances : (penalty : Weight → ℕ → ℕ) → IsEven penalty → (g : Games) (scope : Scope) → IsScope g scope → (rule : Option Rule) →
    ((r : Rule) → rule ≡ Some r → IsBodyFor g.teams r.body) →
    penalty_of penalty (exchanged_by g scope.attempt.exchange.now) rule + rule_part penalty scope.main scope.flipping g rule ≡
    penalty_of penalty g rule + rule_part penalty scope.main scope.flipping (exchanged_by g scope.attempt.exchange.now) rule
rule_balances penalty even g scope is None for = refl
rule_balances penalty even g scope is (Some rule) for =
    even rule.weight _ _ _ _ (body_balances g scope is rule.body (for rule refl))

pub rule_for : (l : LeagueData) (g : Games) (i : ℕ) → IsLeague l → teams l ≡ g.teams → (rule : Rule) →
    slice_get l.rules i ≡ Some rule → IsBodyFor g.teams rule.body
rule_for l g i is same rule at =
    let for : IsRuleFor (teams l) rule =
    subst (IsRuleFor (teams l)) (get_or_from_slice_get l.rules i rule rule at)
    (All-get_or (IsRuleFor (teams l)) l.rules i rule (slice_get_within l.rules i rule at)
    (All-from_recursion (IsRuleFor (teams l)) l.rules is.rules)) in
    subst (λ n. IsBodyFor n rule.body) same for.body

rules_balance : (penalty : Weight → ℕ → ℕ) → IsEven penalty → (l : LeagueData) (g : Games) (scope : Scope) →
    IsLeague l → teams l ≡ g.teams → IsScope g scope →
    sum_over_rules penalty l.rules (exchanged_by g scope.attempt.exchange.now) + rules_part penalty l.rules scope.main scope.flipping g ≡
    sum_over_rules penalty l.rules g + rules_part penalty l.rules scope.main scope.flipping (exchanged_by g scope.attempt.exchange.now)
unfolding sum_over_rules rules_part
rules_balance penalty even l g scope is same are =
    sum_below_balance (length l.rules) _ _ _ _
    (λ i under. rule_balances penalty even g scope are (slice_get l.rules i) (rule_for l g i is same))

-- pairs with both games in one half

phases_balance : (l : LeagueData) (g : Games) (scope : Scope) → IsScope g scope →
    where_phased l (unphased (exchanged_by g scope.attempt.exchange.now)) + where_phased l (unphased_part g (has scope.main.teams)) ≡
    where_phased l (unphased g) + where_phased l (unphased_part (exchanged_by g scope.attempt.exchange.now) (has scope.main.teams))
phases_balance l g scope are =
    counted_balances l.phased _ _ _ _
    (unphased_balance_around g (exchanged_by g scope.attempt.exchange.now) (has scope.main.teams) (has scope.main.rounds)
    are.can_be_made.round_robin
    (round_robin_after g scope are) (around g scope are))

-- all penalties

-- the cost after an exchange is the one before it, with its games after and not before, and with the penalties that the
-- exchange can change counted after it and not before it
record Balances (l : LeagueData) (g g' : Games) (scope : Scope) : Type 0 where
  hard : (cost_of l g').hard + halves_part l scope g + (penalties_part l scope g).hard + games_cost l g ≡
      (cost_of l g).hard + halves_part l scope g' + (penalties_part l scope g').hard + games_cost l g'
  of_rules : (cost_of l g').of_rules + (penalties_part l scope g).hard ≡ (cost_of l g).of_rules + (penalties_part l scope g').hard
  soft : (cost_of l g').soft + (penalties_part l scope g).soft + near_cost l g ≡
      (cost_of l g).soft + (penalties_part l scope g').soft + near_cost l g'

penalties_balance : (l : LeagueData) (g : Games) (scope : Scope) → IsLeague l → teams l ≡ g.teams → IsScope g scope →
    Balances l g (exchanged_by g scope.attempt.exchange.now) scope
unfolding cost_of
penalties_balance l g scope is same are = record {
  hard = omega (arith, rules_balance hard_penalty hard_even l g scope is same are, phases_balance l g scope are);
  of_rules = rules_balance hard_penalty hard_even l g scope is same are;
  soft = omega (arith, rules_balance soft_penalty soft_even l g scope is same are);
}

pub same_cost : (one other : Cost) → one.travel ≡ other.travel → one.hard ≡ other.hard → one.of_rules ≡ other.of_rules →
    one.soft ≡ other.soft → one ≡ other
same_cost one other travel hard of_rules soft = rw (travel, hard, of_rules, soft) refl

-- a predicted cost without the penalties that the exchange can change, counted before it, is that rest after it
pub rest_after : (l : LeagueData) (g : Games) (scope : Scope) (predicted rest : Cost) (halves : ℕ) (parts : Penalties) → IsLeague l →
    teams l ≡ g.teams → IsScope g scope → IsPredicted l g scope.attempt.exchange.now predicted →
    with_penalties (with_halves rest halves) parts ≡ predicted → halves ≡ halves_part l scope g → parts.hard ≡ (penalties_part l scope g).hard →
    parts.soft ≡ (penalties_part l scope g).soft → IsRest l scope (exchanged_by g scope.attempt.exchange.now) rest
rest_after l g scope predicted rest halves parts is same are known without halves_are hard soft =
    let balance : Balances l g (exchanged_by g scope.attempt.exchange.now) scope = penalties_balance l g scope is same are in
    same_cost _ _
    (ap (λ (cost : Cost). cost.travel) without ∙ known.travel_is ∙ sym (cost_travel l (exchanged_by g scope.attempt.exchange.now)))
    (omega (arith, ap (λ (cost : Cost). cost.hard) without, halves_are, hard, known.hard, balance.hard))
    (omega (arith, ap (λ (cost : Cost). cost.of_rules) without, hard, known.of_rules, balance.of_rules))
    (omega (arith, ap (λ (cost : Cost). cost.soft) without, soft, known.soft, balance.soft))

-- a predicted cost where no rule and no half is counted

no_rules : (penalty : Weight → ℕ → ℕ) (l : LeagueData) (g : Games) → length l.rules ≡ 0 → sum_over_rules penalty l.rules g ≡ 0
unfolding sum_over_rules
no_rules penalty l g none = ap (λ n. sum_below n (λ i. penalty_of penalty g (slice_get l.rules i))) none ∙ sum_below_none _

games_alone : (l : LeagueData) (g : Games) → length l.rules ≡ 0 → l.phased ≡ false → (cost_of l g).hard ≡ games_cost l g
unfolding cost_of
games_alone l g none whole =
    omega (arith, no_rules hard_penalty l g none, ap (λ phased. if phased then unphased g else 0) whole)

no_rules_broken : (l : LeagueData) (g : Games) → length l.rules ≡ 0 → (cost_of l g).of_rules ≡ 0
unfolding cost_of
no_rules_broken l g none = no_rules hard_penalty l g none

no_soft : (l : LeagueData) (g : Games) → length l.rules ≡ 0 → (cost_of l g).soft ≡ near_cost l g
unfolding cost_of
no_soft l g none = omega (arith, no_rules soft_penalty l g none)

predicted_whole : (l : LeagueData) (g : Games) (exchange : Exchange) (predicted : Cost) → IsPredicted l g exchange predicted → length l.rules ≡ 0 →
    l.phased ≡ false → predicted ≡ cost_of l (exchanged_by g exchange)
predicted_whole l g exchange predicted is none whole =
    same_cost predicted (cost_of l (exchanged_by g exchange)) (is.travel_is ∙ sym (cost_travel l (exchanged_by g exchange)))
    (omega (arith, is.hard, games_alone l g none whole, games_alone l (exchanged_by g exchange) none whole))
    (is.of_rules ∙ no_rules_broken l g none ∙ sym (no_rules_broken l (exchanged_by g exchange) none))
    (omega (arith, is.soft, no_soft l g none, no_soft l (exchanged_by g exchange) none))

pub games_le : (l : LeagueData) (g : Games) → games_cost l g ≤ (cost_of l g).hard
unfolding cost_of
games_le l g = omega arith

pub near_le : (l : LeagueData) (g : Games) → near_cost l g ≤ (cost_of l g).soft
unfolding cost_of
near_le l g = omega arith

-- a cost of which no number is more scores no more
pub score_grows : (weights : Weights) (less more : Cost) → less.travel ≤ more.travel → less.hard ≤ more.hard → less.of_rules ≤ more.of_rules →
    less.soft ≤ more.soft → score_by weights less ≤ score_by weights more
score_grows weights less more travel hard of_rules soft =
    omega (arith, travel, soft, mul-le-mul_left weights.breach hard, mul-le-mul_left weights.rule of_rules)

pub score_after : (l : LeagueData) (g : Games) (exchange : Exchange) → IsLeague l → teams l ≡ g.teams →
    score_of l (cost_of l (exchanged_by g exchange)) < score_limit
score_after l g exchange is same = score_below l (exchanged_by g exchange) is (exchanged-teams g exchange ∙ sym same)

pub score_fits_after : (l : LeagueData) (g : Games) (exchange : Exchange) (weights : Weights) → IsLeague l → teams l ≡ g.teams → AreWeights weights →
    score_by weights (cost_of l (exchanged_by g exchange)) < 2 ^ 64
score_fits_after l g exchange weights is same = score_fits l (exchanged_by g exchange) weights is (exchanged-teams g exchange ∙ sym same)

-- a predicted cost that is the cost after
pub record IsWhole (l : LeagueData) (weights : Weights) (after : Games) (predicted : Cost) : Type 0 where
  pub is : predicted ≡ cost_of l after
  pub score_is : score_by weights predicted ≡ score_by weights (cost_of l after)
  pub fits : score_by weights predicted < 2 ^ 64
  pub small : score_of l predicted < score_limit

pub predicted_alone : {l : LeagueData} {g : Games} {exchange : Exchange} {predicted : Cost} (weights : Weights) → AreWeights weights → IsPredicted l g exchange predicted →
    IsLeague l → teams l ≡ g.teams → length l.rules ≡ 0 → l.phased ≡ false → IsWhole l weights (exchanged_by g exchange) predicted
predicted_alone {l} {g} {exchange} {predicted} weights few known is same none whole =
    let cost_is : predicted ≡ cost_of l (exchanged_by g exchange) = predicted_whole l g exchange predicted known none whole in
    record {
      is = cost_is;
      score_is = ap (score_by weights) cost_is;
      fits = omega (arith, ap (score_by weights) cost_is, score_fits_after l g exchange weights is same few);
      small = omega (arith, ap (score_of l) cost_is, score_after l g exchange is same);
    }

-- the travel is no more than the score
pub travel_scores : (l : LeagueData) (weights : Weights) (g : Games) → travel l g ≤ score_by weights (cost_of l g)
travel_scores l weights g = omega (arith, cost_travel l g)

-- nor the travel with some of the streaks
pub least_scores : (l : LeagueData) (weights : Weights) (g : Games) (streaks : ℕ) → streaks ≤ runs_over g l.at_most →
    score_by weights (record { travel = travel l g; hard = streaks; of_rules = 0; soft = 0 }) ≤ score_by weights (cost_of l g)
least_scores l weights g streaks some =
    score_grows weights _ (cost_of l g) (omega (arith, cost_travel l g)) (omega (arith, some, games_le l g)) (omega arith) (omega arith)

-- nor what is predicted without at least those penalties
pub least_after : (l : LeagueData) (g : Games) (scope : Scope) (weights : Weights) (predicted least : Cost) (halves : ℕ) (all : Penalties) →
    IsLeague l → teams l ≡ g.teams → IsScope g scope → IsPredicted l g scope.attempt.exchange.now predicted →
    with_penalties (with_halves least halves) all ≡ predicted → halves ≡ halves_part l scope g → (penalties_part l scope g).hard ≤ all.hard →
    (penalties_part l scope g).soft ≤ all.soft → score_by weights least ≤ score_by weights (cost_of l (exchanged_by g scope.attempt.exchange.now))
least_after l g scope weights predicted least halves all is same are known without halves_are hard soft =
    let balance : Balances l g (exchanged_by g scope.attempt.exchange.now) scope = penalties_balance l g scope is same are in
    score_grows weights least (cost_of l (exchanged_by g scope.attempt.exchange.now))
    (omega (
      arith,
      ap (λ (cost : Cost). cost.travel) without,
      known.travel_is,
      cost_travel l (exchanged_by g scope.attempt.exchange.now),
    ))
    (omega (arith, ap (λ (cost : Cost). cost.hard) without, halves_are, known.hard, balance.hard, hard))
    (omega (arith, ap (λ (cost : Cost). cost.of_rules) without, known.of_rules, balance.of_rules, hard))
    (omega (arith, ap (λ (cost : Cost). cost.soft) without, known.soft, balance.soft, soft))

pub rest_scores : (l : LeagueData) (weights : Weights) (scope : Scope) (after : Games) (rest : Cost) → IsRest l scope after rest →
    score_by weights rest ≤ score_by weights (cost_of l after)
rest_scores l weights scope after rest is =
    subst (λ cost. score_by weights rest ≤ score_by weights cost) is
    (score_grows weights rest (with_penalties (with_halves rest (halves_part l scope after)) (penalties_part l scope after)) (omega arith)
    (omega arith) (omega arith) (omega arith))

-- a cost within a limit is a small one
pub within_is_small : (l : LeagueData) (weights : Weights) (g : Games) (limit : ℕ) (cost : Option Cost) → IsCostWithin l weights limit g cost →
    score_of l (cost_of l g) < score_limit → IfSome cost (λ cost. score_of l cost < score_limit)
within_is_small l weights g limit (Some cost) within below = subst (λ cost. score_of l cost < score_limit) (sym within.0) below
within_is_small l weights g limit None within below = tt

-- no score is above the greatest limit
pub within_greatest : (l : LeagueData) (weights : Weights) (g : Games) (result : Option Cost) → IsCostWithin l weights 18446744073709551615 g result →
    score_by weights (cost_of l g) < 2 ^ 64 → IsSome result
within_greatest l weights g (Some cost) within below = search rules
within_greatest l weights g None within below = absurd (omega (arith, within))
