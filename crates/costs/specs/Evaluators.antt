-- What an evaluator of a league's schedules knows of its rules.
use Rattle.std.specs.Prelude.{◌≡◌, ℕ, ◌==◌, ◌&&◌, Bool, true, false, not, if◌then◌else◌, List, slice_get, slice_index, Option, Some, None, IfSome}
use Rattle.std.specs.Option.{option_map_or}
use Rattle.league.specs.League.{LeagueData}
use Rattle.league.specs.Sets.{has}
use Rattle.league.specs.declared.rule.Rule.{Rule}
use Rattle.league.specs.declared.rule.RuleBody.{RuleBody}
use Rattle.league.specs.declared.rule.Weight.{Weight}
use Rattle.league.specs.declared.rule.Weight.TheVariants.{Hard, Soft}
use Rattle.league.specs.declared.rule.RuleBody.TheVariants.{Br2, Se1, Fa2}
use Rattle.fixtures.specs.Games.{Games}
use Rattle.rules.specs.Deviations.{deviation}
use Rattle.rule_index.specs.Index.{IndexRows, IsIndexOf}

-- how far a schedule is from each rule, and the set of those that it breaks
pub record Deviations : Type 0 where
  pub each : List ℕ
  pub broken : ℕ

-- which rules a change can alter, which are counted first, next and last, and how far a schedule is from each, if that was counted
pub record Known : Type 0 where
  pub index : IndexRows
  pub first : ℕ
  pub next : ℕ
  pub last : ℕ
  pub deviations : Option Deviations

-- the deviations, if they are known
abbrev pub if_known : Bool → List ℕ → ℕ → Option Deviations
if_known known each broken = if known then Some (record { each = each; broken = broken }) else None

-- whether there is a rule at an index, and it passes a test
unfoldable pub is_at : List Rule → (Rule → Bool) → ℕ → Bool
is_at rules test i = option_map_or test (slice_get rules i) false

-- whether a rule takes long to count: it counts all its teams together, or compares each two of them
unfoldable pub is_slow : RuleBody → Bool
is_slow (Br2 teams slots most) = true
is_slow (Se1 teams least) = true
is_slow (Fa2 teams slots most) = true
is_slow body = false

unfoldable pub is_hard : Weight → Bool
is_hard Hard = true
is_hard (Soft weight) = false

-- three sets have the rules by the order in which they are counted: those that take long are the last, and of the others the hard ones the first
pub record IsOrderOf (rules : List Rule) (first next last : ℕ) : Type 0 where
  pub hard : (i : ℕ) → has first i ≡ is_at rules (λ (rule : Rule). not (is_slow rule.body) && is_hard rule.weight) i
  pub soft : (i : ℕ) → has next i ≡ is_at rules (λ (rule : Rule). not (is_slow rule.body) && not (is_hard rule.weight)) i
  pub slow : (i : ℕ) → has last i ≡ is_at rules (λ (rule : Rule). is_slow rule.body) i

-- it is known of these rules
pub record IsEvaluatorOf (rules : List Rule) (known : Known) : Type 0 where
  pub index : IsIndexOf rules known.index
  pub order : IsOrderOf rules known.first known.next known.last

-- these are the deviations of the schedule
pub record AreDeviations (rules : List Rule) (g : Games) (deviations : Deviations) : Type 0 where
  pub each : (i : ℕ) (rule : Rule) → slice_get rules i ≡ Some rule → slice_index deviations.each i ≡ deviation g rule.body
  pub broken : (i : ℕ) (rule : Rule) → slice_get rules i ≡ Some rule → has deviations.broken i ≡ not (slice_index deviations.each i == 0)

-- it is known of the league's rules and of this schedule
pub record IsEvaluatorAt (l : LeagueData) (g : Games) (known : Known) : Type 0 where
  pub league : IsEvaluatorOf l.rules known
  pub schedule : IfSome known.deviations (AreDeviations l.rules g)
