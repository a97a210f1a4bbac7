-- What of the known deviations stays whatever an exchange does, added rule by rule to the cost without them.
use Rattle.std.proofs.Common.{◌≡◌, ℕ, ◌+◌, ◌-◌, ◌*◌, ◌<◌, ◌≤◌, Bool, true, false, if◌then◌else◌, List, length, get_or, slice_get, Option, Some, None, refl, sym, ◌∙◌}
use Rattle.std.proofs.Common.{ap, ap₂, arith}
use Rattle.league.specs.League.{LeagueData, teams, IsLeague}
use Rattle.league.specs.Sets.{has, IsBelow}
use Rattle.league.specs.within.Sets.{IsWithoutLowest}
use Rattle.league.specs.Sums.{sum_where}
use Rattle.league.specs.declared.rule.Rule.{Rule}
use Rattle.league.specs.declared.rule.Weight.{Weight}
use Rattle.league.proofs.ForCallers.{has_empty, lowest_below, sum_below_add, sum_below_same, sum_where_none, sum_where_without}
use Rattle.fixtures.specs.Games.{Games, IsDoubleRoundRobin}
use Rattle.fixtures.specs.Exchanges.{exchanged_by}
use Rattle.rules.specs.Deviations.{deviation}
use Rattle.rules.specs.Parts.{deviation_part}
use Rattle.rules.proofs.ForCallers.{part_le}
use Rattle.costs.specs.Costs.{cost_of, hard_penalty, penalty_of, score_by, score_limit, soft_penalty}
use Rattle.costs.specs.within.CostParts.{alterable_penalties, penalties_part, rule_part, halves_part, with_halves, with_penalties, IsPredicted, IsRest, IsScope, KnowsRules}
use Rattle.costs.specs.within.KeptDeviations.{AreKeptDeviations}
use Rattle.costs.specs.declared.kept_deviations.KeptDeviations.{KeptDeviations}
use Rattle.costs.specs.declared.cost.Cost.{Cost}
use Rattle.costs.specs.declared.penalties.Penalties.{Penalties}
use Rattle.costs.specs.declared.scope.Scope.{Scope}
use Rattle.costs.specs.declared.weights.Weights.{Weights}
use Rattle.costs.proofs.KeptDeviations.{AreBroken}
use Rattle.costs.proofs.PartLimits.{hard_nothing, soft_nothing}
use Rattle.costs.proofs.Walked.{all_of_broken, part_of_broken, unbroken_nothing, walked}
use Rattle.costs.proofs.Parts.{games_le, near_le, hard_even, soft_even, least_after, rest_after, same_cost, IsEven}
use Rattle.costs.proofs.Scores.{cost_small, exchanged-teams, of_rules_le}

-- what one rule adds whatever the exchange does, if there is one
abbrev pub rule_stays : (Weight → ℕ → ℕ) → Scope → Games → Option Rule → ℕ
rule_stays penalty scope g None = 0
rule_stays penalty scope g (Some rule) =
    penalty rule.weight (deviation g rule.body - deviation_part g scope.main.teams scope.main.rounds scope.flipping rule.body)

module _ (penalty : Weight → ℕ → ℕ) (even : IsEven penalty) (nothing : (weight : Weight) → penalty weight 0 ≡ 0) (scope : Scope) (g : Games) where
  rule_splits : (rule : Option Rule) → penalty_of penalty g rule ≡
      rule_stays penalty scope g rule + rule_part penalty scope.main scope.flipping g rule
  rule_splits None = refl
  rule_splits (Some rule) =
      let whole = deviation g rule.body in
      let part = deviation_part g scope.main.teams scope.main.rounds scope.flipping rule.body in
      let le : part ≤ whole = part_le g scope.main.teams scope.main.rounds scope.flipping rule.body in
      omega (arith, even rule.weight (whole - part) part whole 0 (omega (arith, le)), nothing rule.weight)

  sum_splits : (l : LeagueData) (set : ℕ) →
      sum_where (length l.rules) (has set) (λ i. penalty_of penalty g (slice_get l.rules i)) ≡
      sum_where (length l.rules) (has set) (λ i. rule_stays penalty scope g (slice_get l.rules i)) +
      sum_where (length l.rules) (has set) (λ i. rule_part penalty scope.main scope.flipping g (slice_get l.rules i))
  sum_splits l set =
      sum_below_same (length l.rules) _ (λ i. (if has set i then stays i else 0) + (if has set i then part i else 0))
      (λ i below. at (has set i) _ (stays i) (part i) (rule_splits (slice_get l.rules i))) ∙
      sum_below_add (length l.rules) (λ i. if has set i then stays i else 0) (λ i. if has set i then part i else 0)
    where
      stays : ℕ → ℕ
      stays i = rule_stays penalty scope g (slice_get l.rules i)

      part : ℕ → ℕ
      part i = rule_part penalty scope.main scope.flipping g (slice_get l.rules i)

      at : (b : Bool) (x y z : ℕ) → x ≡ y + z → (if b then x else 0) ≡ (if b then y else 0) + (if b then z else 0)
      at true x y z same = same
      at false x y z same = refl

-- what the rules of a set add whatever the exchange does, and what it can alter of those of another
abbrev pub stays_and_parts : LeagueData → Scope → Games → ℕ → ℕ → Penalties
stays_and_parts l scope g left set = record {
  hard = sum_where (length l.rules) (has left) (λ i. rule_stays hard_penalty scope g (slice_get l.rules i)) +
      sum_where (length l.rules) (has set) (λ i. rule_part hard_penalty scope.main scope.flipping g (slice_get l.rules i));
  soft = sum_where (length l.rules) (has left) (λ i. rule_stays soft_penalty scope g (slice_get l.rules i)) +
      sum_where (length l.rules) (has set) (λ i. rule_part soft_penalty scope.main scope.flipping g (slice_get l.rules i));
}

-- a predicted cost without what the exchange can alter of the rules of a set, and without what stays of those that are left
pub record IsRestWithout (l : LeagueData) (scope : Scope) (g : Games) (predicted : Cost) (halves set left : ℕ) (rest : Cost) : Type 0 where
  pub below : IsBelow (length l.rules) left
  pub is : with_penalties (with_halves rest halves) (stays_and_parts l scope g left set) ≡ predicted

pub rest_begun : (l : LeagueData) (scope : Scope) (g : Games) (predicted : Cost) (halves set left : ℕ) (rest : Cost) (known : Penalties) →
    IsBelow (length l.rules) set → left ≡ set → with_penalties (with_halves rest halves) known ≡ predicted →
    known.hard ≡ sum_where (length l.rules) (has set) (λ i. penalty_of hard_penalty g (slice_get l.rules i)) →
    known.soft ≡ sum_where (length l.rules) (has set) (λ i. penalty_of soft_penalty g (slice_get l.rules i)) →
    IsRestWithout l scope g predicted halves set left rest
rest_begun l scope g predicted halves set left rest known below all without hard soft = rw all (record {
  below = below;
  is =
      ap (with_penalties (with_halves rest halves))
      (sym (same_penalties known _ (hard ∙ sum_splits hard_penalty hard_even hard_nothing scope g l set)
      (soft ∙ sum_splits soft_penalty soft_even soft_nothing scope g l set))) ∙
      without;
})
  where
    same_penalties : (one other : Penalties) → one.hard ≡ other.hard → one.soft ≡ other.soft → one ≡ other
    same_penalties one other hard soft = rw (hard, soft) refl

pub rest_grows : (l : LeagueData) (scope : Scope) (g : Games) (predicted : Cost) (halves set left index fewer : ℕ) (rest next : Cost) (rule : Rule) →
    IsRestWithout l scope g predicted halves set left rest → IsWithoutLowest left index fewer → slice_get l.rules index ≡ Some rule →
    next.travel ≡ rest.travel → next.hard ≡ rest.hard + rule_stays hard_penalty scope g (Some rule) →
    next.of_rules ≡ rest.of_rules + rule_stays hard_penalty scope g (Some rule) →
    next.soft ≡ rest.soft + rule_stays soft_penalty scope g (Some rule) → IsRestWithout l scope g predicted halves set fewer next
rest_grows l scope g predicted halves set left index fewer rest next rule so_far taken at travel hard of_rules soft =
    let here : index < length l.rules = lowest_below (length l.rules) left index fewer so_far.below taken in
    let hard_at = ap (rule_stays hard_penalty scope g) at in
    let soft_at = ap (rule_stays soft_penalty scope g) at in
    let hard_without = sum_where_without (length l.rules) left index fewer (λ i. rule_stays hard_penalty scope g (slice_get l.rules i)) here taken in
    let soft_without = sum_where_without (length l.rules) left index fewer (λ i. rule_stays soft_penalty scope g (slice_get l.rules i)) here taken in
    record {
      below = omega (arith, so_far.below, taken.fewer);
      is = same_cost _ predicted (travel ∙ ap (λ (cost : Cost). cost.travel) so_far.is)
          (omega (arith, ap (λ (cost : Cost). cost.hard) so_far.is, hard, hard_at, hard_without))
          (omega (arith, ap (λ (cost : Cost). cost.of_rules) so_far.is, of_rules, hard_at, hard_without))
          (omega (arith, ap (λ (cost : Cost). cost.soft) so_far.is, soft, soft_at, soft_without));
    }

-- what is left of a known deviation without the part
pub stays_told : (l : LeagueData) (scope : Scope) (g : Games) (held : KeptDeviations) (kept : List ℕ) (i part : ℕ) (rule : Rule) →
    AreKeptDeviations l.rules g held → held.is_known ≡ true → kept ≡ held.kept → slice_get l.rules i ≡ Some rule →
    part ≡ deviation_part g scope.main.teams scope.main.rounds scope.flipping rule.body →
    get_or kept i 0 - part ≡ deviation g rule.body - deviation_part g scope.main.teams scope.main.rounds scope.flipping rule.body
stays_told l scope g held kept i part rule are known same at part_is =
    ap₂ (λ a b. a - b) (ap (λ all. get_or all i 0) same ∙ (are.deviations known).each i rule at) part_is

-- what is added next fits
pub record AddsWithin (scope : Scope) (g : Games) (rest : Cost) (rule : Rule) : Type 0 where
  pub hard : rest.hard + rule_stays hard_penalty scope g (Some rule) < 2 * score_limit
  pub of_rules : rest.of_rules + rule_stays hard_penalty scope g (Some rule) < 2 * score_limit
  pub soft : rest.soft + rule_stays soft_penalty scope g (Some rule) < 2 * score_limit

pub adds_within : (l : LeagueData) (scope : Scope) (g : Games) (predicted : Cost) (halves set left index fewer : ℕ) (rest : Cost) (rule : Rule) →
    IsLeague l → teams l ≡ g.teams → IsPredicted l g scope.attempt.exchange.now predicted →
    IsRestWithout l scope g predicted halves set left rest → IsWithoutLowest left index fewer → slice_get l.rules index ≡ Some rule →
    AddsWithin scope g rest rule
adds_within l scope g predicted halves set left index fewer rest rule is same known so_far taken at =
    let after = exchanged_by g scope.attempt.exchange.now in
    let small = cost_small l g is same in
    let small_after = cost_small l after is (same ∙ sym (exchanged-teams g scope.attempt.exchange.now)) in
    let here : index < length l.rules = lowest_below (length l.rules) left index fewer so_far.below taken in
    let hard_at = ap (rule_stays hard_penalty scope g) at in
    let soft_at = ap (rule_stays soft_penalty scope g) at in
    let hard_without = sum_where_without (length l.rules) left index fewer (λ i. rule_stays hard_penalty scope g (slice_get l.rules i)) here taken in
    let soft_without = sum_where_without (length l.rules) left index fewer (λ i. rule_stays soft_penalty scope g (slice_get l.rules i)) here taken in
    record {
      hard = omega (
        arith,
        ap (λ (cost : Cost). cost.hard) so_far.is,
        hard_at,
        hard_without,
        known.hard,
        games_le l after,
        small.hard,
        small_after.hard,
      );
      of_rules = omega (arith, ap (λ (cost : Cost). cost.of_rules) so_far.is, hard_at, hard_without, known.of_rules, of_rules_le l g, small.hard);
      soft = omega (
        arith,
        ap (λ (cost : Cost). cost.soft) so_far.is,
        soft_at,
        soft_without,
        known.soft,
        near_le l after,
        small.soft,
        small_after.soft,
      );
    }

-- the parts of the rules of a set are those of all rules
pub record ArePartsOf (l : LeagueData) (scope : Scope) (g : Games) (set : ℕ) : Type 0 where
  pub hard : sum_where (length l.rules) (has set) (λ i. rule_part hard_penalty scope.main scope.flipping g (slice_get l.rules i)) ≡
      (penalties_part l scope g).hard
  pub soft : sum_where (length l.rules) (has set) (λ i. rule_part soft_penalty scope.main scope.flipping g (slice_get l.rules i)) ≡
      (penalties_part l scope g).soft

-- the schedule before an exchange and what is known on it
module _ (l : LeagueData) (scope : Scope) (g : Games) (held : KeptDeviations) (set : ℕ) (is : IsLeague l) (same : teams l ≡ g.teams)
    (robin : IsDoubleRoundRobin g) (knows : KnowsRules l scope) (deviations : AreKeptDeviations l.rules g held)
    (is_known : held.is_known ≡ true) (members : AreBroken scope held.broken set) where
  pub parts_of_broken : ArePartsOf l scope g set
  parts_of_broken = record {
    hard =
        unbroken_nothing (rule_part hard_penalty scope.main scope.flipping g) l scope g held set
        (part_of_broken hard_penalty hard_nothing scope g) deviations is_known members ∙
        walked hard_penalty hard_nothing l scope g is same robin knows;
    soft =
        unbroken_nothing (rule_part soft_penalty scope.main scope.flipping g) l scope g held set
        (part_of_broken soft_penalty soft_nothing scope g) deviations is_known members ∙
        walked soft_penalty soft_nothing l scope g is same robin knows;
  }

  module _ (predicted : Cost) (halves left : ℕ) (rest : Cost) (are : IsScope g scope) (known : IsPredicted l g scope.attempt.exchange.now predicted)
      (halves_are : halves ≡ halves_part l scope g) (so_far : IsRestWithout l scope g predicted halves set left rest) where
    -- so far it scores no more than the schedule after the exchange
    pub rest_scores_less : (weights : Weights) →
        score_by weights rest ≤ score_by weights (cost_of l (exchanged_by g scope.attempt.exchange.now))
    rest_scores_less weights =
        least_after l g scope weights predicted rest halves (stays_and_parts l scope g left set) is same are known so_far.is halves_are
        (omega (arith, parts_of_broken.hard)) (omega (arith, parts_of_broken.soft))

    pub rest_whole : left ≡ 0 → IsRest l scope (exchanged_by g scope.attempt.exchange.now) rest
    rest_whole none =
        rest_after l g scope predicted rest halves (stays_and_parts l scope g left set) is same are known so_far.is halves_are
        (omega (arith, parts_of_broken.hard, gone (λ i. rule_stays hard_penalty scope g (slice_get l.rules i))))
        (omega (arith, parts_of_broken.soft, gone (λ i. rule_stays soft_penalty scope g (slice_get l.rules i))))
      where
        gone : (f : ℕ → ℕ) → sum_where (length l.rules) (has left) f ≡ 0
        gone f = sum_where_none (length l.rules) (has left) f (λ k below. ap (λ s. has s k) none ∙ has_empty k)

-- all that the rules add which the exchange can alter, those that aren't broken add nothing
pub known_of_broken : (l : LeagueData) (scope : Scope) (g : Games) (held : KeptDeviations) (set : ℕ) (known : Penalties) →
    AreKeptDeviations l.rules g held → held.is_known ≡ true → AreBroken scope held.broken set → known ≡ alterable_penalties l scope g →
    (known.hard ≡ sum_where (length l.rules) (has set) (λ i. penalty_of hard_penalty g (slice_get l.rules i))) ×
    (known.soft ≡ sum_where (length l.rules) (has set) (λ i. penalty_of soft_penalty g (slice_get l.rules i)))
known_of_broken l scope g held set known deviations is_known members all = (
  ap (λ (p : Penalties). p.hard) all ∙
      sym (unbroken_nothing (penalty_of hard_penalty g) l scope g held set (all_of_broken hard_penalty hard_nothing g) deviations is_known members),
  ap (λ (p : Penalties). p.soft) all ∙
      sym (unbroken_nothing (penalty_of soft_penalty g) l scope g held set (all_of_broken soft_penalty soft_nothing g) deviations is_known members),
)
