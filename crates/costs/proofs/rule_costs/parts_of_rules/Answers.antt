use Rattle.std.proofs.Common.{length, refl, ◌∙◌, sym, ap}
use Rattle.league.specs.Sets.{IsBelow}
use Rattle.league.proofs.ForCallers.{lowest_below, sum_without_none, sum_without_more, sum_without_all}
use Rattle.costs.specs.Costs.{hard_penalty, soft_penalty}
use Rattle.costs.specs.within.CostParts.{rule_part}
use Rattle.costs.proofs.PartLimits.{hard_nothing, soft_nothing}
use Rattle.costs.proofs.Walked.{walked}
use Rattle.costs.proofs.rule_costs.parts_of_rules.Goals as goal

pub loop-i-init : goal.loop-i-init
loop-i-init c =
    let whole = c.into_iter-i-iterator.ensures.into_iter_gives in
    let below : IsBelow (length c.args.league.now.rules) c.into_iter-i-iterator.result = rw whole c.requires.rules.below in
    record {
      hard = sum_without_none _ _ _ _ _ below whole;
      soft = sum_without_none _ _ _ _ _ below whole;
    }

pub rule-rule-requires : goal.rule-rule-requires
rule-rule-requires c = lowest_below _ _ _ _ c.loop-i.invariant.hard.below c.in-Some.ensures.steps

pub loop-i-preserved : goal.loop-i-preserved
loop-i-preserved c =
    let taken = c.in-Some.ensures.steps in
    let part = c.deviation_part-part.ensures.value in
    record {
      hard = sum_without_more _ _ _ _ _ _ _ _ _ c.loop-i.invariant.hard taken
          (rw part at c.of_rule-added.ensures.hard ∙
          ap (rule_part hard_penalty c.args.scope.now.main c.args.scope.now.flipping c.args.schedule.now) (sym c.rule-rule.ensures.value))
          c.of_rule-added.ensures.hard_most;
      soft = sum_without_more _ _ _ _ _ _ _ _ _ c.loop-i.invariant.soft taken
          (rw part at c.of_rule-added.ensures.soft ∙
          ap (rule_part soft_penalty c.args.scope.now.main c.args.scope.now.flipping c.args.schedule.now) (sym c.rule-rule.ensures.value))
          c.of_rule-added.ensures.soft_most;
    }

pub returns-clause-hard : goal.returns-clause-hard
returns-clause-hard c =
    sum_without_all _ _ _ _ _ _ _ c.loop-i.invariant.hard c.in-None.ensures.steps.0 (λ i below. refl) ∙
    walked hard_penalty hard_nothing c.args.league.now c.args.scope.now c.args.schedule.now c.teams.ensures.limits c.requires.same_size
    c.teams-2.ensures.round_robin c.requires.rules

pub returns-clause-soft : goal.returns-clause-soft
returns-clause-soft c =
    sum_without_all _ _ _ _ _ _ _ c.loop-i.invariant.soft c.in-None.ensures.steps.0 (λ i below. refl) ∙
    walked soft_penalty soft_nothing c.args.league.now c.args.scope.now c.args.schedule.now c.teams.ensures.limits c.requires.same_size
    c.teams-2.ensures.round_robin c.requires.rules
