use Rattle.std.proofs.Common.{◌<◌, length, refl, ◌∙◌, sym, ap, arith}
use Rattle.league.specs.Limits.{deviation_limit}
use Rattle.league.specs.Sets.{has, IsBelow}
use Rattle.league.proofs.ForCallers.{lowest_below, sum_without_none, sum_without_more, sum_without_all}
use Rattle.rules.specs.Deviations.{deviation}
use Rattle.rules.proofs.ForCallers.{deviation_below}
use Rattle.costs.specs.Costs.{hard_penalty, soft_penalty, penalty_of}
use Rattle.costs.proofs.PartLimits.{hard_nothing, soft_nothing}
use Rattle.costs.proofs.Parts.{rule_for}
use Rattle.costs.proofs.Walked.{all_of_broken, unbroken_nothing}
use Rattle.costs.proofs.rule_costs.known_penalties.Goals as goal

pub loop-i-init : goal.loop-i-init
loop-i-init c =
    let below : IsBelow (length c.args.league.now.rules) c.into_iter-i-iterator.result =
    rw c.into_iter-i-iterator.ensures.into_iter_gives (c.intersection-i-items.ensures.below _ c.requires.rules.below) in
    record {
      hard = sum_without_none _ _ _ _ _ below refl;
      soft = sum_without_none _ _ _ _ _ below refl;
    }

pub rule-rule-requires : goal.rule-rule-requires
rule-rule-requires c = lowest_below _ _ _ _ c.loop-i.invariant.hard.below c.in-Some.ensures.steps

pub offset_bounds-deviations-i : goal.offset_bounds-deviations-i
offset_bounds-deviations-i c =
    omega (arith, lowest_below _ _ _ _ c.loop-i.invariant.hard.below c.in-Some.ensures.steps, c.teams.ensures.limits.rule_count)

pub bounds-deviations-i : goal.bounds-deviations-i
bounds-deviations-i c =
    omega (arith, lowest_below _ _ _ _ c.loop-i.invariant.hard.below c.in-Some.ensures.steps, c.teams.ensures.limits.rule_count)

pub of_rule-added-requires-clause-deviation : goal.of_rule-added-requires-clause-deviation
of_rule-added-requires-clause-deviation c =
    let small : deviation c.args.schedule.now c.rule-rule.result.now.body < deviation_limit =
    deviation_below c.args.schedule.now c.rule-rule.result.now.body (omega (arith, c.teams-2.ensures.number, c.teams-2.ensures.most))
    (rule_for c.args.league.now c.args.schedule.now c.in-Some.i c.teams.ensures.limits c.requires.same_size c.rule-rule.result.now
    c.rule-rule.ensures.value) in
    omega (arith, small, ((c.requires.deviations.deviations c.requires.known).each c.in-Some.i c.rule-rule.result.now c.rule-rule.ensures.value))

pub loop-i-preserved : goal.loop-i-preserved
loop-i-preserved c =
    let taken = c.in-Some.ensures.steps in
    record {
      hard = sum_without_more _ _ _ _ _ _ _ _ _ c.loop-i.invariant.hard taken
          (c.of_rule-added.ensures.hard ∙ ap (hard_penalty c.rule-rule.result.now.weight) (c.from.ensures ∙ (c.requires.deviations.deviations c.requires.known).each c.in-Some.i c.rule-rule.result.now c.rule-rule.ensures.value) ∙
          ap (penalty_of hard_penalty c.args.schedule.now) (sym c.rule-rule.ensures.value))
          c.of_rule-added.ensures.hard_most;
      soft = sum_without_more _ _ _ _ _ _ _ _ _ c.loop-i.invariant.soft taken
          (c.of_rule-added.ensures.soft ∙ ap (soft_penalty c.rule-rule.result.now.weight) (c.from.ensures ∙ (c.requires.deviations.deviations c.requires.known).each c.in-Some.i c.rule-rule.result.now c.rule-rule.ensures.value) ∙
          ap (penalty_of soft_penalty c.args.schedule.now) (sym c.rule-rule.ensures.value))
          c.of_rule-added.ensures.soft_most;
    }

pub returns : goal.returns
returns c =
    rw (
      sum_without_all _ _ _ _ _ (has c.intersection-i-items.result) _ c.loop-i.invariant.hard c.in-None.ensures.steps.0
          (λ k below. ap (λ set. has set k) c.into_iter-i-iterator.ensures.into_iter_gives) ∙
          unbroken_nothing (penalty_of hard_penalty c.args.schedule.now) c.args.league.now c.args.scope.now c.args.schedule.now
          c.args.deviations.now _ (all_of_broken hard_penalty hard_nothing c.args.schedule.now) c.requires.deviations c.requires.known
          c.intersection-i-items.ensures.members,
      sum_without_all _ _ _ _ _ (has c.intersection-i-items.result) _ c.loop-i.invariant.soft c.in-None.ensures.steps.0
          (λ k below. ap (λ set. has set k) c.into_iter-i-iterator.ensures.into_iter_gives) ∙
          unbroken_nothing (penalty_of soft_penalty c.args.schedule.now) c.args.league.now c.args.scope.now c.args.schedule.now
          c.args.deviations.now _ (all_of_broken soft_penalty soft_nothing c.args.schedule.now) c.requires.deviations c.requires.known
          c.intersection-i-items.ensures.members,
    )
    refl
