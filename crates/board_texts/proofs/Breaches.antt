-- The breaches of a schedule, added up.
use Rattle.std.proofs.Common.{◌≡◌, ℕ, ◌+◌, List, Some, sym, ◌∙◌, ap, arith}
use Rattle.std.specs.Prelude.{slice_get}
use Rattle.league.specs.League.{LeagueData}
use Rattle.league.specs.declared.rule.Rule.{Rule}
use Rattle.league.proofs.ForCallers.{sum_below_more}
use Rattle.fixtures.specs.Games.{Games}
use Rattle.rules.specs.Deviations.{deviation}
use Rattle.costs.specs.Costs.{cost_of, hard_penalty, penalty_of, sum_over_rules}
use Rattle.board_texts.specs.LeastHard.{breaches_of, breaches_told, part_text, rule_name, rule_part}

pub add_up : (l : LeagueData) (g : Games) → breaches_told l g ≡ (cost_of l g).hard
unfolding cost_of sum_over_rules
add_up l g = omega arith

-- one rule more
module _ (rules : List Rule) (g : Games) (i : ℕ) (rule : Rule) (at : slice_get rules i ≡ Some rule) where
  pub breaches_more : breaches_of rules g (i + 1) ≡ breaches_of rules g i + hard_penalty rule.weight (deviation g rule.body)
  breaches_more =
      sum_below_more i (λ k. penalty_of hard_penalty g (slice_get rules k)) ∙
      ap (λ r. breaches_of rules g i + penalty_of hard_penalty g r) at

  pub part_is : (breaches before count : ℕ) → before ≡ breaches + breaches_of rules g i →
      count ≡ hard_penalty rule.weight (deviation g rule.body) →
      part_text before (rule_name i rule.body) count ≡ rule_part g (breaches + breaches_of rules g i) i (slice_get rules i)
  part_is breaches before count before_is count_is =
      rw (before_is, count_is) (ap (rule_part g (breaches + breaches_of rules g i) i) (sym at))
