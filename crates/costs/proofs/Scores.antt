-- Each schedule of a league scores below the limit of scores.
use Rattle.std.proofs.Common.{◌≡◌, ℕ, ◌+◌, ◌-◌, ◌*◌, ◌^◌, ◌<◌, ◌≤◌, if◌then◌else◌, ◌&&◌}
use Rattle.std.proofs.Common.{Bool, true, false, length, slice_get, Option, Some, None, refl, sym, subst, le_refl, arith}
use Rattle.std.proofs.lemmas.List.Elements.{All-from_recursion, All-get_or}
use Rattle.std.proofs.lemmas.Option.{slice_get_within, get_or_from_slice_get}
use Rattle.std.proofs.Math.Nat.{mul-le-mul, mul-le-mul_left}
use Rattle.league.specs.Limits.{deviation_limit, max_rules, max_weight, max_teams, max_rounds}
use Rattle.league.specs.League.{LeagueData, teams, IsLeague}
use Rattle.league.specs.RuleLimits.{IsRuleFor, IsWeight}
use Rattle.league.specs.declared.rule.Rule.{Rule}
use Rattle.league.specs.declared.rule.Weight.{Weight}
use Rattle.league.specs.declared.rule.Weight.TheVariants.{Hard, Soft}
use Rattle.league.specs.Sums.{count_where}
use Rattle.league.proofs.ForCallers.{sum_below_le, sum_of_pairs_le, count_where_le, if_le}
use Rattle.fixtures.specs.Games.{Games, round_count, meets}
use Rattle.fixtures.specs.declared.exchanges.Exchange.{Exchange}
use Rattle.fixtures.specs.declared.exchanges.Exchange.TheVariants as edit
use Rattle.fixtures.specs.Exchanges.{exchanged_by}
use Rattle.tours.specs.Tours.{leg_count, leg, travel_of, travel}
use Rattle.tours.specs.Streaks.{windows, is_streak, streaks_of, runs_over}
use Rattle.tours.specs.Repeats.{repeats_after, repeats}
use Rattle.tours.specs.Phased.{is_unphased, unphased}
use Rattle.rules.specs.Deviations.{deviation}
use Rattle.costs.specs.Costs.{hard_penalty, soft_penalty, penalty_of, sum_over_rules, where_phased, cost_of, score_by, score_of}
use Rattle.costs.specs.Costs.{near_cost, score_limit, unless_free, AreWeights}
use Rattle.tours.specs.Moved.{is_moved, moved_from}
use Rattle.costs.specs.declared.cost.Cost.{Cost}
use Rattle.costs.specs.declared.weights.Weights.{Weights}
use Rattle.league.specs.Starts.{start_round}
use Rattle.rules.proofs.ForCallers.{deviation_below}

-- each of the costs is below the limit of scores
pub record IsSmall (cost : Cost) : Type 0 where
  pub travel : cost.travel < score_limit
  pub hard : cost.hard < score_limit
  pub soft : cost.soft < score_limit

pub exchanged-teams : (g : Games) (exchange : Exchange) → (exchanged_by g exchange).teams ≡ g.teams
exchanged-teams g (edit.Rounds k l among) = refl
exchanged-teams g (edit.Teams i j among) = refl

-- the parts of the cost

pub travel_le : (l : LeagueData) (g : Games) → IsLeague l → g.teams ≤ max_teams → travel l g ≤ 3160000000
unfolding travel travel_of leg
travel_le l g is forty =
    omega (
      arith,
      sum_below_le g.teams 79000000 (travel_of l g)
          (λ t under.
          omega (arith, sum_below_le (leg_count g) 1000000 (leg l g t) (λ r below. is.table.near _ _))),
    )

runs_over_le : (g : Games) (at_most : ℕ) → g.teams ≤ max_teams → runs_over g at_most ≤ 3160
unfolding runs_over streaks_of
runs_over_le g at_most forty =
    omega (
      arith,
      sum_below_le g.teams (max_rounds + 1) (streaks_of g at_most)
          (λ t under.
          omega (arith, count_where_le (windows g (at_most + 1)) (λ first. is_streak g t first (at_most + 1)))),
    )

repeats_after_le : (g : Games) (round : ℕ) → g.teams ≤ max_teams → repeats_after g round ≤ max_teams * max_teams
unfolding repeats_after
repeats_after_le g round forty =
    omega (
      arith,
      mul-le-mul forty forty,
      sum_of_pairs_le g.teams 1 (λ low high. if meets g high low round && meets g high low (round + 1) then 1 else 0)
          (λ low high below under. if_le (meets g high low round && meets g high low (round + 1)) 1 1 (λ _. omega arith)),
    )

repeats_le : (g : Games) → g.teams ≤ max_teams → repeats g ≤ 123200
unfolding repeats
repeats_le g forty =
    omega (
      arith,
      sum_below_le (round_count g.teams - 1) (max_teams * max_teams) (repeats_after g) (λ r under. repeats_after_le g r forty),
    )

unphased_le : (g : Games) → g.teams ≤ max_teams → unphased g ≤ max_teams * max_teams
unfolding unphased
unphased_le g forty =
    omega (
      arith,
      mul-le-mul forty forty,
      sum_of_pairs_le g.teams 1 (λ i j. if is_unphased g i j then 1 else 0)
          (λ i j below under. if_le (is_unphased g i j) 1 1 (λ _. omega arith)),
    )

unless_le : (free : Bool) (count limit : ℕ) → count ≤ limit → (if free then 0 else count) ≤ limit
unless_le true count limit le = omega arith
unless_le false count limit le = le

unless_free_le : (l : LeagueData) (count limit : ℕ) → count ≤ limit → unless_free l count ≤ limit
unless_free_le l count limit le = unless_le l.free_repeats count limit le

where_phased_le : (l : LeagueData) (count limit : ℕ) → count ≤ limit → where_phased l count ≤ limit
where_phased_le l count limit le = if_le l.phased count limit (λ _. le)

hard_penalty_le : (weight : Weight) (deviation : ℕ) → hard_penalty weight deviation ≤ deviation
hard_penalty_le Hard deviation = omega arith
hard_penalty_le (Soft weight) deviation = omega arith

soft_penalty_le : (weight : Weight) (deviation : ℕ) → IsWeight weight → deviation ≤ deviation_limit →
    soft_penalty weight deviation ≤ max_weight * deviation_limit
soft_penalty_le Hard deviation is few = omega arith
soft_penalty_le (Soft weight) deviation is few = omega (arith, mul-le-mul is.1 few)

-- the sum over the rules, where no rule adds more than this
penalty_le : (l : LeagueData) (g : Games) (penalty : Weight → ℕ → ℕ) (limit : ℕ) → IsLeague l →
    ((rule : Rule) → IsRuleFor (teams l) rule → penalty rule.weight (deviation g rule.body) ≤ limit) →
    (i : ℕ) (rule : Option Rule) → slice_get l.rules i ≡ rule → penalty_of penalty g rule ≤ limit
penalty_le l g penalty limit is each i None at = omega arith
penalty_le l g penalty limit is each i (Some rule) at =
    each rule
    (subst (IsRuleFor (teams l)) (get_or_from_slice_get l.rules i rule rule at)
    (All-get_or (IsRuleFor (teams l)) l.rules i rule (slice_get_within l.rules i rule at)
    (All-from_recursion (IsRuleFor (teams l)) l.rules is.rules)))

sum_over_rules_le : (l : LeagueData) (g : Games) (penalty : Weight → ℕ → ℕ) (limit : ℕ) → IsLeague l →
    ((rule : Rule) → IsRuleFor (teams l) rule → penalty rule.weight (deviation g rule.body) ≤ limit) →
    sum_over_rules penalty l.rules g ≤ max_rules * limit
unfolding sum_over_rules
sum_over_rules_le l g penalty limit is each =
    omega (
      arith,
      mul-le-mul is.rule_count (le_refl limit),
      sum_below_le (length l.rules) limit (λ i. penalty_of penalty g (slice_get l.rules i))
          (λ i under. penalty_le l g penalty limit is each i (slice_get l.rules i) refl),
    )

deviation_of : (l : LeagueData) (g : Games) (rule : Rule) → g.teams ≡ teams l → g.teams ≤ max_teams → IsRuleFor (teams l) rule →
    deviation g rule.body ≤ deviation_limit
deviation_of l g rule same forty is =
    let own : IsRuleFor g.teams rule = subst (λ n. IsRuleFor n rule) (sym same) is in
    omega (arith, deviation_below g rule.body forty own.body)

-- hard limits count by the league's weight
hard_le : (l : LeagueData) (g : Games) → IsLeague l → g.teams ≡ teams l → g.teams ≤ max_teams →
    (cost_of l g).hard ≤ max_rules * deviation_limit + 127960
unfolding cost_of
hard_le l g is same forty =
    omega (
      arith,
      runs_over_le g l.at_most forty,
      unless_free_le l (repeats g) 123200 (repeats_le g forty),
      where_phased_le l (unphased g) (max_teams * max_teams) (unphased_le g forty),
      sum_over_rules_le l g hard_penalty deviation_limit is
          (λ rule for. omega (arith, hard_penalty_le rule.weight (deviation g rule.body), deviation_of l g rule same forty for)),
    )

pub of_rules_le : (l : LeagueData) (g : Games) → (cost_of l g).of_rules ≤ (cost_of l g).hard
unfolding cost_of
of_rules_le l g = omega arith

moved_le : (start : ℕ → ℕ → ℕ) (g : Games) → g.teams ≤ max_teams → moved_from start g ≤ max_teams * max_teams
unfolding moved_from
moved_le start g forty =
    omega (
      arith,
      mul-le-mul forty forty,
      sum_below_le g.teams g.teams (λ home. count_where g.teams (is_moved start g home))
          (λ home under. count_where_le g.teams (is_moved start g home)),
    )

near_cost_le : (l : LeagueData) (g : Games) → IsLeague l → g.teams ≤ max_teams → near_cost l g ≤ max_weight * (max_teams * max_teams)
near_cost_le l g is forty = mul-le-mul is.origin.near (moved_le (start_round l) g forty)

soft_le : (l : LeagueData) (g : Games) → IsLeague l → g.teams ≡ teams l → g.teams ≤ max_teams →
    (cost_of l g).soft ≤ max_rules * (max_weight * deviation_limit) + max_weight * (max_teams * max_teams)
unfolding cost_of
soft_le l g is same forty =
    omega (
      arith,
      near_cost_le l g is forty,
      sum_over_rules_le l g soft_penalty (max_weight * deviation_limit) is
          (λ rule for. soft_penalty_le rule.weight (deviation g rule.body) for.weight (deviation_of l g rule same forty for)),
    )

pub cost_travel : (l : LeagueData) (g : Games) → (cost_of l g).travel ≡ travel l g
unfolding cost_of
cost_travel l g = refl

pub score_below : (l : LeagueData) (g : Games) → IsLeague l → g.teams ≡ teams l → score_of l (cost_of l g) < score_limit
score_below l g is same =
    let forty : g.teams ≤ max_teams = omega (arith, is.table.most) in
    omega (
      arith,
      cost_travel l g,
      travel_le l g is forty,
      soft_le l g is same forty,
      mul-le-mul is.weight_most (hard_le l g is same forty),
    )

-- by any weights each score fits 64 bits
pub score_fits : (l : LeagueData) (g : Games) (weights : Weights) → IsLeague l → g.teams ≡ teams l → AreWeights weights →
    score_by weights (cost_of l g) < 2 ^ 64
score_fits l g weights is same few =
    let forty : g.teams ≤ max_teams = omega (arith, is.table.most) in
    let hard = hard_le l g is same forty in
    let of_rules : (cost_of l g).of_rules ≤ max_rules * deviation_limit + 127960 = omega (arith, of_rules_le l g, hard) in
    omega (
      arith,
      cost_travel l g,
      travel_le l g is forty,
      soft_le l g is same forty,
      few.fit,
      mul-le-mul_left weights.breach hard,
      mul-le-mul_left weights.rule of_rules,
    )

pub cost_small : (l : LeagueData) (g : Games) → IsLeague l → teams l ≡ g.teams → IsSmall (cost_of l g)
cost_small l g is same =
    let below : score_of l (cost_of l g) < score_limit = score_below l g is (sym same) in
    record {
      travel = omega arith;
      hard = omega (arith, hard_le l g is (sym same) (omega (arith, is.table.most)));
      soft = omega arith;
    }
