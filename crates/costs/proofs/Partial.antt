-- A cost with what an exchange can alter of some of the rules costs no more than with all of them.
use Rattle.std.proofs.Common.{◌≡◌, ◌||◌, ℕ, ◌+◌, ◌^◌, ◌<◌, ◌≤◌, Bool, true, false, true≢false, if◌then◌else◌, length, slice_get, Some, refl, sym, ap, ◌∙◌, arith}
use Rattle.league.specs.League.{LeagueData, teams, IsLeague}
use Rattle.league.specs.Sets.{has, IsBelow}
use Rattle.league.specs.within.Sets.{IsWithoutLowest}
use Rattle.league.specs.Sums.{sum_where}
use Rattle.league.specs.declared.rule.Rule.{Rule}
use Rattle.league.proofs.ForCallers.{has_empty, lowest_below, sum_below_add, sum_below_same, sum_where_none, sum_where_without}
use Rattle.fixtures.specs.Games.{Games, IsDoubleRoundRobin}
use Rattle.costs.specs.Costs.{cost_of, hard_penalty, soft_penalty, score_by, score_limit, AreWeights}
use Rattle.costs.specs.within.CostParts.{halves_part, penalties_part, rule_part, parts_of, with_halves, with_penalties, IsRest, IsWithin, KnowsRules}
use Rattle.costs.proofs.Scores.{IsSmall, cost_small, of_rules_le, score_fits}
use Rattle.costs.specs.declared.cost.Cost.{Cost}
use Rattle.costs.specs.declared.weights.Weights.{Weights}
use Rattle.costs.specs.declared.scope.Scope.{Scope}
use Rattle.costs.proofs.PartLimits.{hard_nothing, soft_nothing}
use Rattle.costs.proofs.Parts.{same_cost, score_grows}
use Rattle.costs.proofs.Walked.{walked}

-- a cost with the rules of a set, but for those that are left
pub record IsCountedWithout (l : LeagueData) (scope : Scope) (g : Games) (set : ℕ) (before : Cost) (left : ℕ) (cost : Cost) : Type 0 where
  pub below : IsBelow (length l.rules) left
  pub travel : cost.travel ≡ before.travel
  pub hard : cost.hard + (parts_of l scope left g).hard ≡ before.hard + (parts_of l scope set g).hard
  pub of_rules : cost.of_rules + (parts_of l scope left g).hard ≡ before.of_rules + (parts_of l scope set g).hard
  pub soft : cost.soft + (parts_of l scope left g).soft ≡ before.soft + (parts_of l scope set g).soft

-- a cost whose score by some weights the schedule's is not below, and that is small
pub record IsNoMore (l : LeagueData) (weights : Weights) (g : Games) (cost : Cost) : Type 0 where
  pub scores : score_by weights cost ≤ score_by weights (cost_of l g)
  pub scored : score_by weights cost < 2 ^ 64
  pub hard : cost.hard < score_limit
  pub of_rules : cost.of_rules < score_limit
  pub soft : cost.soft < score_limit

pub no_more : {l : LeagueData} {scope : Scope} {g : Games} {set : ℕ} {before cost : Cost} {left : ℕ} (weights : Weights) → AreWeights weights →
    IsLeague l → teams l ≡ g.teams → IsWithin l scope set g before → IsCountedWithout l scope g set before left cost →
    IsNoMore l weights g cost
no_more {l} {scope} {g} {set} {before} {cost} {left} weights few league same within is =
    let hard : cost.hard ≤ (cost_of l g).hard = omega (arith, is.hard, within.hard) in
    let of_rules : cost.of_rules ≤ (cost_of l g).of_rules = omega (arith, is.of_rules, within.of_rules) in
    let soft : cost.soft ≤ (cost_of l g).soft = omega (arith, is.soft, within.soft) in
    let scores : score_by weights cost ≤ score_by weights (cost_of l g) =
    score_grows weights cost (cost_of l g) (omega (arith, is.travel, within.travel)) hard of_rules soft in
    let small : IsSmall (cost_of l g) = cost_small l g league same in
    record {
      scores = scores;
      scored = omega (arith, scores, score_fits l g weights league (sym same) few);
      hard = omega (arith, hard, small.hard);
      of_rules = omega (arith, of_rules, of_rules_le l g, small.hard);
      soft = omega (arith, soft, small.soft);
    }

pub none_counted : (l : LeagueData) (scope : Scope) (g : Games) (set : ℕ) (before : Cost) (left : ℕ) → IsBelow (length l.rules) set →
    left ≡ set → IsCountedWithout l scope g set before left before
none_counted l scope g set before left below all = rw all (record { below = below; travel = refl; hard = refl; of_rules = refl; soft = refl })

pub one_more_counted : (l : LeagueData) (scope : Scope) (g : Games) (set : ℕ) (before cost next : Cost) (left index fewer : ℕ) (rule : Rule) →
    IsCountedWithout l scope g set before left cost → IsWithoutLowest left index fewer → slice_get l.rules index ≡ Some rule →
    next.travel ≡ cost.travel → next.hard ≡ cost.hard + rule_part hard_penalty scope.main scope.flipping g (Some rule) →
    next.of_rules ≡ cost.of_rules + rule_part hard_penalty scope.main scope.flipping g (Some rule) →
    next.soft ≡ cost.soft + rule_part soft_penalty scope.main scope.flipping g (Some rule) → IsCountedWithout l scope g set before fewer next
one_more_counted l scope g set before cost next left index fewer rule is taken at travel hard of_rules soft =
    let here : index < length l.rules = lowest_below (length l.rules) left index fewer is.below taken in
    let hard_at = ap (rule_part hard_penalty scope.main scope.flipping g) at in
    let hard_without = sum_where_without (length l.rules) left index fewer
    (λ i. rule_part hard_penalty scope.main scope.flipping g (slice_get l.rules i)) here taken in
    record {
      below = omega (arith, is.below, taken.fewer);
      travel = travel ∙ is.travel;
      hard = omega (arith, is.hard, hard, hard_at, hard_without);
      of_rules = omega (arith, is.of_rules, of_rules, hard_at, hard_without);
      soft = omega (
        arith,
        is.soft,
        soft,
        ap (rule_part soft_penalty scope.main scope.flipping g) at,
        sum_where_without (length l.rules) left index fewer
            (λ i. rule_part soft_penalty scope.main scope.flipping g (slice_get l.rules i)) here taken,
      );
    }

pub all_counted : (l : LeagueData) (scope : Scope) (g : Games) (set : ℕ) (before cost : Cost) (left : ℕ) → left ≡ 0 →
    IsCountedWithout l scope g set before left cost → cost ≡ with_penalties before (parts_of l scope set g)
all_counted l scope g set before cost left none is =
    let gone : (f : ℕ → ℕ) → sum_where (length l.rules) (has left) f ≡ 0 =
    λ f. sum_where_none (length l.rules) (has left) f (λ k below. ap (λ s. has s k) none ∙ has_empty k) in
    same_cost cost (with_penalties before (parts_of l scope set g)) is.travel
    (omega (arith, is.hard, gone (λ i. rule_part hard_penalty scope.main scope.flipping g (slice_get l.rules i))))
    (omega (arith, is.of_rules, gone (λ i. rule_part hard_penalty scope.main scope.flipping g (slice_get l.rules i))))
    (omega (arith, is.soft, gone (λ i. rule_part soft_penalty scope.main scope.flipping g (slice_get l.rules i))))

-- a cost that with the rules that are counted first, next and last is the schedule's
pub record IsBegun (l : LeagueData) (scope : Scope) (g : Games) (cost : Cost) : Type 0 where
  pub travel : cost.travel ≡ (cost_of l g).travel
  pub hard : cost.hard + (parts_of l scope scope.first g).hard + (parts_of l scope scope.next g).hard + (parts_of l scope scope.last g).hard ≡
      (cost_of l g).hard
  pub of_rules : cost.of_rules + (parts_of l scope scope.first g).hard + (parts_of l scope scope.next g).hard +
      (parts_of l scope scope.last g).hard ≡ (cost_of l g).of_rules
  pub soft : cost.soft + (parts_of l scope scope.first g).soft + (parts_of l scope scope.next g).soft + (parts_of l scope scope.last g).soft ≡
      (cost_of l g).soft

-- the sum over a set that is two others of which none has what the other has
parted : (n : ℕ) (f : ℕ → ℕ) (all one other : ℕ → Bool) → ((i : ℕ) → all i ≡ (one i || other i)) →
    ((i : ℕ) → one i ≡ true → other i ≡ false) → sum_where n all f ≡ sum_where n one f + sum_where n other f
parted n f all one other both apart =
    sum_below_same n _ (λ i. (if one i then f i else 0) + (if other i then f i else 0)) (λ i below. at i (one i) (other i) refl refl) ∙
    sum_below_add n (λ i. if one i then f i else 0) (λ i. if other i then f i else 0)
  where
    at : (i : ℕ) (a b : Bool) → one i ≡ a → other i ≡ b →
        (if all i then f i else 0) ≡ (if one i then f i else 0) + (if other i then f i else 0)
    at i true true in_one in_other = absurd (true≢false (sym in_other ∙ apart i in_one))
    at i true false in_one out = rw (both i, in_one, out) (omega arith)
    at i false true out in_other = rw (both i, out, in_other) (omega arith)
    at i false false out neither = rw (both i, out, neither) (omega arith)

parts : (l : LeagueData) (scope : Scope) (f : ℕ → ℕ) → KnowsRules l scope →
    sum_where (length l.rules) (has scope.rules) f ≡
    sum_where (length l.rules) (has scope.first) f +
    (sum_where (length l.rules) (has scope.next) f + sum_where (length l.rules) (has scope.last) f)
parts l scope f knows =
    parted (length l.rules) f (has scope.rules) (has scope.first) (λ i. has scope.next i || has scope.last i) (λ i. (knows.each i).one) (λ i. (knows.each i).first_apart) ∙
    ap (λ n. sum_where (length l.rules) (has scope.first) f + n)
    (parted (length l.rules) f (λ i. has scope.next i || has scope.last i) (has scope.next) (has scope.last) (λ i. refl) (λ i. (knows.each i).next_apart))

pub begun_is : (l : LeagueData) (scope : Scope) (g : Games) (rest cost : Cost) → IsLeague l → teams l ≡ g.teams → IsDoubleRoundRobin g →
    KnowsRules l scope → IsRest l scope g rest → cost ≡ with_halves rest (halves_part l scope g) → IsBegun l scope g cost
begun_is l scope g rest cost is same robin knows whole begun = rw begun (record {
  travel = ap (λ (cost : Cost). cost.travel) whole;
  hard = omega (arith, ap (λ (cost : Cost). cost.hard) whole, hard);
  of_rules = omega (arith, ap (λ (cost : Cost). cost.of_rules) whole, hard);
  soft = omega (
    arith,
    ap (λ (cost : Cost). cost.soft) whole,
    walked soft_penalty soft_nothing l scope g is same robin knows,
    parts l scope (λ i. rule_part soft_penalty scope.main scope.flipping g (slice_get l.rules i)) knows,
  );
})
  where
    hard : (penalties_part l scope g).hard ≡
        (parts_of l scope scope.first g).hard + ((parts_of l scope scope.next g).hard + (parts_of l scope scope.last g).hard)
    hard = omega (
      arith,
      walked hard_penalty hard_nothing l scope g is same robin knows,
      parts l scope (λ i. rule_part hard_penalty scope.main scope.flipping g (slice_get l.rules i)) knows,
    )

module _ (l : LeagueData) (scope : Scope) (g : Games) (begun : Cost) (is : IsBegun l scope g begun) where
  pub first_within : IsWithin l scope scope.first g begun
  first_within = record {
    travel = is.travel;
    hard = omega (arith, is.hard);
    of_rules = omega (arith, is.of_rules);
    soft = omega (arith, is.soft);
  }

  module _ (first : Cost) (counted : first ≡ with_penalties begun (parts_of l scope scope.first g)) where
    pub next_within : IsWithin l scope scope.next g first
    next_within = rw counted (record {
      travel = is.travel;
      hard = omega (arith, is.hard);
      of_rules = omega (arith, is.of_rules);
      soft = omega (arith, is.soft);
    })

    module _ (next : Cost) (more : next ≡ with_penalties first (parts_of l scope scope.next g)) where
      pub last_within : IsWithin l scope scope.last g next
      last_within = rw (more, counted) (record {
        travel = is.travel;
        hard = omega (arith, is.hard);
        of_rules = omega (arith, is.of_rules);
        soft = omega (arith, is.soft);
      })

      pub whole_is : (cost : Cost) → cost ≡ with_penalties next (parts_of l scope scope.last g) → cost ≡ cost_of l g
      whole_is cost all =
          all ∙
          rw (more, counted) (same_cost _ (cost_of l g) is.travel (omega (arith, is.hard)) (omega (arith, is.of_rules)) (omega (arith, is.soft)))
