-- A walk over the rules that an exchange can alter counts what all rules do.
use Rattle.std.proofs.Common.{◌≡◌, ℕ, ◌||◌, ◌&&◌, ◌==◌, Bool, true, false, if◌then◌else◌, length, slice_get, Option, Some, None, refl, sym, ◌∙◌, ap, ◌≤◌, arith}
use Rattle.std.proofs.lemmas.Bool.{and_parts}
use Rattle.league.specs.League.{LeagueData, teams, IsLeague}
use Rattle.league.specs.Sets.{has}
use Rattle.league.specs.Sums.{sum_where}
use Rattle.league.specs.declared.rule.Rule.{Rule}
use Rattle.league.specs.declared.rule.Weight.{Weight}
use Rattle.league.proofs.ForCallers.{sum_below_le_each, sum_below_same, has_both}
use Rattle.fixtures.specs.Games.{Games, IsDoubleRoundRobin}
use Rattle.fixtures.specs.declared.exchanges.Exchange.{Exchange}
use Rattle.fixtures.specs.declared.exchanges.Exchange.TheVariants as edit
use Rattle.fixtures.specs.Exchanges.{exchanged_by, main_cells, flipping_team}
use Rattle.rule_index.proofs.ForCallers.{nothing_else_altered}
use Rattle.costs.specs.within.CostParts.{alterable_penalties, halves_part, penalties_part, rule_part, rules_part, with_halves, with_penalties, IsPredicted, IsScope, KnowsRules}
use Rattle.costs.specs.within.KeptDeviations.{AreKeptDeviations}
use Rattle.costs.specs.declared.kept_deviations.KeptDeviations.{KeptDeviations}
use Rattle.costs.specs.declared.cost.Cost.{Cost}
use Rattle.costs.specs.declared.penalties.Penalties.{Penalties}
use Rattle.costs.specs.declared.scope.Scope.{Scope}
use Rattle.costs.specs.declared.weights.Weights.{Weights}
use Rattle.rules.specs.Deviations.{deviation}
use Rattle.costs.specs.Costs.{cost_of, hard_penalty, penalty_of, score_by, soft_penalty}
use Rattle.costs.proofs.KeptDeviations.{AreBroken, no_deviation, no_part}
use Rattle.costs.proofs.PartLimits.{hard_grows, hard_nothing, rule_part_le, soft_grows, soft_nothing, where_le, Grows}
use Rattle.costs.proofs.Parts.{least_after, rule_for}

-- only main teams flip
pub flipping_main : (g : Games) (exchange : Exchange) (t : ℕ) → flipping_team g exchange t ≡ true →
    has (main_cells exchange).teams t ≡ true
flipping_main g (edit.Rounds k l among) t e = (and_parts (has among t) _ e).0
flipping_main g (edit.Teams i j among) t e = has_both i j t ∙ (and_parts (t == i || t == j) _ e).0

module _ (penalty : Weight → ℕ → ℕ) (nothing : (weight : Weight) → penalty weight 0 ≡ 0) (l : LeagueData) (scope : Scope) (g : Games)
    (is : IsLeague l) (same : teams l ≡ g.teams) (robin : IsDoubleRoundRobin g) (knows : KnowsRules l scope) where
  part_nothing : (i : ℕ) (rule : Option Rule) → slice_get l.rules i ≡ rule → has scope.rules i ≡ false →
      rule_part penalty scope.main scope.flipping g rule ≡ 0
  part_nothing i None at out = refl
  part_nothing i (Some rule) at out =
      ap (penalty rule.weight)
      (nothing_else_altered g l.rules i rule scope.main.teams scope.main.rounds scope.flipping robin at (rule_for l g i is same rule at)
      knows.sides (sym (knows.rules i) ∙ out)) ∙
      nothing rule.weight

  pub walked : sum_where (length l.rules) (has scope.rules) (λ i. rule_part penalty scope.main scope.flipping g (slice_get l.rules i)) ≡
      rules_part penalty l.rules scope.main scope.flipping g
  unfolding rules_part
  walked =
      sum_below_same (length l.rules) (λ i. if has scope.rules i then rule_part penalty scope.main scope.flipping g (slice_get l.rules i) else 0)
      (λ i. rule_part penalty scope.main scope.flipping g (slice_get l.rules i))
      (λ i below. by_test i (has scope.rules i) refl)
    where
      by_test : (i : ℕ) (b : Bool) → has scope.rules i ≡ b →
          (if b then rule_part penalty scope.main scope.flipping g (slice_get l.rules i) else 0) ≡
          rule_part penalty scope.main scope.flipping g (slice_get l.rules i)
      by_test i true e = refl
      by_test i false e = sym (part_nothing i (slice_get l.rules i) refl e)

  walked_le : Grows penalty → rules_part penalty l.rules scope.main scope.flipping g ≤
      sum_where (length l.rules) (has scope.rules) (λ i. penalty_of penalty g (slice_get l.rules i))
  walked_le grows =
      omega (
        arith,
        walked,
        sum_below_le_each (length l.rules)
            (λ i. if has scope.rules i then rule_part penalty scope.main scope.flipping g (slice_get l.rules i) else 0)
            (λ i. if has scope.rules i then penalty_of penalty g (slice_get l.rules i) else 0)
            (λ i below. where_le (has scope.rules i) _ _ (rule_part_le penalty grows scope.main scope.flipping g (slice_get l.rules i))),
      )

-- a rule whose deviation is 0 adds nothing
abbrev IsOfBroken : Games → (Option Rule → ℕ) → Type 0
IsOfBroken g added = (rule : Option Rule) → ((r : Rule) → rule ≡ Some r → deviation g r.body ≡ 0) → added rule ≡ 0

pub part_of_broken : (penalty : Weight → ℕ → ℕ) → ((weight : Weight) → penalty weight 0 ≡ 0) → (scope : Scope) (g : Games) →
    IsOfBroken g (rule_part penalty scope.main scope.flipping g)
part_of_broken penalty nothing scope g None zero = refl
part_of_broken penalty nothing scope g (Some rule) zero =
    ap (penalty rule.weight) (no_part g scope rule (zero rule refl)) ∙ nothing rule.weight

pub all_of_broken : (penalty : Weight → ℕ → ℕ) → ((weight : Weight) → penalty weight 0 ≡ 0) → (g : Games) → IsOfBroken g (penalty_of penalty g)
all_of_broken penalty nothing g None zero = refl
all_of_broken penalty nothing g (Some rule) zero = ap (penalty rule.weight) (zero rule refl) ∙ nothing rule.weight

-- rules that are known not to be broken add nothing
pub unbroken_nothing : (added : Option Rule → ℕ) (l : LeagueData) (scope : Scope) (g : Games) (held : KeptDeviations) (set : ℕ) →
    IsOfBroken g added → AreKeptDeviations l.rules g held → held.is_known ≡ true → AreBroken scope held.broken set →
    sum_where (length l.rules) (has set) (λ i. added (slice_get l.rules i)) ≡
    sum_where (length l.rules) (has scope.rules) (λ i. added (slice_get l.rules i))
unbroken_nothing added l scope g held set nothing are known members =
    sum_below_same (length l.rules) _ _
    (λ i below. ap (λ (b : Bool). if b then added (slice_get l.rules i) else 0) (members i) ∙
    at i (slice_get l.rules i) refl (has scope.rules i) (has held.broken i) refl)
  where
    at : (i : ℕ) (rule : Option Rule) → slice_get l.rules i ≡ rule → (a broken : Bool) → has held.broken i ≡ broken →
        (if a && broken then added rule else 0) ≡ (if a then added rule else 0)
    at i rule at_i false broken b = refl
    at i rule at_i true true b = refl
    at i rule at_i true false b =
        let held_are = are.deviations known in
        sym (nothing rule
        (λ r is. no_deviation g r held.kept i (held_are.each i r (at_i ∙ is)) (sym b ∙ held_are.broken i r (at_i ∙ is))))

-- what an exchange can alter of the rules is at most all of those that it can alter
pub record ArePartsWithin (l : LeagueData) (scope : Scope) (g : Games) : Type 0 where
  pub hard : (penalties_part l scope g).hard ≤ (alterable_penalties l scope g).hard
  pub soft : (penalties_part l scope g).soft ≤ (alterable_penalties l scope g).soft

pub parts_within : (l : LeagueData) (scope : Scope) (g : Games) → IsLeague l → teams l ≡ g.teams → IsDoubleRoundRobin g → KnowsRules l scope →
    ArePartsWithin l scope g
parts_within l scope g is same robin knows = record {
  hard = walked_le hard_penalty hard_nothing l scope g is same robin knows hard_grows;
  soft = walked_le soft_penalty soft_nothing l scope g is same robin knows soft_grows;
}

-- with no rule broken that the exchange can alter the schedule after it would score no more
pub least_scores : (l : LeagueData) (g : Games) (scope : Scope) (weights : Weights) (predicted least : Cost) (halves : ℕ) (all : Penalties) →
    IsLeague l → teams l ≡ g.teams → IsDoubleRoundRobin g → KnowsRules l scope → IsScope g scope →
    IsPredicted l g scope.attempt.exchange.now predicted → with_penalties (with_halves least halves) all ≡ predicted →
    halves ≡ halves_part l scope g → all ≡ alterable_penalties l scope g →
    score_by weights least ≤ score_by weights (cost_of l (exchanged_by g scope.attempt.exchange.now))
least_scores l g scope weights predicted least halves all is same robin knows are known without halves_are all_is =
    least_after l g scope weights predicted least halves all is same are known without halves_are
    (omega (arith, (parts_within l scope g is same robin knows).hard, ap (λ (p : Penalties). p.hard) all_is))
    (omega (arith, (parts_within l scope g is same robin knows).soft, ap (λ (p : Penalties). p.soft) all_is))
