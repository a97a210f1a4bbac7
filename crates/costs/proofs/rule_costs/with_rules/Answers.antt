use Rattle.std.proofs.Common.{◌≡◌, ◌+◌, ◌<◌, ◌||◌, true, if◌then◌else◌, get_or, refl, sym, ap, ◌∙◌, arith}
use Rattle.std.proofs.lemmas.Bool.{and_parts}
use Rattle.std.proofs.lemmas.List.{length-set}
use Rattle.league.specs.Limits.{deviation_limit}
use Rattle.league.specs.Sets.{has}
use Rattle.league.proofs.ForCallers.{has_empty, lowest_below, lowest_gone, others_kept}
use Rattle.rules.specs.Deviations.{deviation}
use Rattle.rules.specs.Parts.{deviation_part}
use Rattle.rules.proofs.ForCallers.{deviation_below}
use Rattle.costs.specs.within.KeptDeviations.{rest_at}
use Rattle.costs.proofs.KeptDeviations.{rest_taken, rests_same}
use Rattle.costs.proofs.Parts.{rule_for}
use Rattle.costs.proofs.Partial.{IsCountedWithout, all_counted, no_more, none_counted, one_more_counted}
use Rattle.costs.proofs.rule_costs.with_rules.Goals as goal

pub loop-i-init : goal.loop-i-init
loop-i-init c =
    let counted : IsCountedWithout c.args.league.now c.args.scope.now c.args.schedule.now c.args.rules c.args.before c.into_iter-i-iterator.result _ =
    none_counted _ _ _ _ _ _ c.requires.below c.into_iter-i-iterator.ensures.into_iter_gives in
    record {
      counted = counted;
      no_more = no_more c.args.scope.now.attempt.weights c.requires.weights c.teams.ensures.limits c.requires.same_size c.requires.before counted;
      same = record { known = refl; kept = refl; broken = refl };
      next_length = c.requires.next_length;
      within = λ i has_it. sym (ap (λ set. has set i) c.into_iter-i-iterator.ensures.into_iter_gives) ∙ has_it;
      rests = λ others apart before known.
          rests_same c.args.league.now.rules c.args.scope.now _ _ c.args.schedule.now _ _
          (λ i. ap (λ set. has set i || others i) (sym c.into_iter-i-iterator.ensures.into_iter_gives)) (before known);
    }

pub rule-rule-requires : goal.rule-rule-requires
rule-rule-requires c = lowest_below _ _ _ _ c.loop-i.invariant.counted.below c.in-Some.ensures.steps

pub loop-i-preserved : goal.loop-i-preserved
loop-i-preserved c =
    let counted : IsCountedWithout c.args.league.now c.args.scope.now c.args.schedule.now c.args.rules c.args.before _ _ =
    one_more_counted _ _ _ _ _ c.loop-i.cost _ _ c.in-Some.i _ c.rule-rule.result.now c.loop-i.invariant.counted c.in-Some.ensures.steps
    c.rule-rule.ensures.value refl
    (omega (arith, rw c.deviation_part-part.ensures.value at c.of_rule-added.ensures.hard))
    (omega (arith, rw c.deviation_part-part.ensures.value at c.of_rule-added.ensures.hard))
    (omega (arith, rw c.deviation_part-part.ensures.value at c.of_rule-added.ensures.soft)) in
    record {
      counted = counted;
      no_more = no_more c.args.scope.now.attempt.weights c.requires.weights c.teams.ensures.limits c.requires.same_size c.requires.before counted;
      same = record {
        known = c.loop-i.invariant.same.known;
        kept = c.loop-i.invariant.same.kept;
        broken = c.loop-i.invariant.same.broken;
      };
      next_length = length-set _ _ _ ∙ c.loop-i.invariant.next_length;
      within = λ i has_it. c.loop-i.invariant.within i (and_parts _ _ (sym (c.in-Some.ensures.steps.others i) ∙ has_it)).0;
      rests = λ others apart before known.
          let rests = c.loop-i.invariant.rests others apart before known in
          let part = deviation_part c.args.schedule.now c.args.scope.now.main.teams c.args.scope.now.main.rounds c.args.scope.now.flipping
          c.rule-rule.result.now.body in
          let in_rules : has c.args.rules c.in-Some.i ≡ true = c.loop-i.invariant.within c.in-Some.i c.in-Some.ensures.steps.in_set in
          let lacks : (has c.loop-i.i-iterator c.in-Some.i || others c.in-Some.i) ≡ true =
          ap (λ b. b || others c.in-Some.i) c.in-Some.ensures.steps.in_set in
          let left : rest_at c.loop-i.deviations.kept c.loop-i.deviations.next c.in-Some.i + part ≡
          deviation c.args.schedule.now c.rule-rule.result.now.body =
          ap (λ b. if b then rest_at c.loop-i.deviations.kept c.loop-i.deviations.next c.in-Some.i + part
          else get_or c.loop-i.deviations.next c.in-Some.i 0) (sym lacks) ∙
          rests c.in-Some.i c.rule-rule.result.now c.rule-rule.ensures.value (c.requires.alterable c.in-Some.i in_rules) in
          let small : deviation c.args.schedule.now c.rule-rule.result.now.body < deviation_limit =
          deviation_below c.args.schedule.now c.rule-rule.result.now.body (omega (arith, c.teams-2.ensures.number, c.teams-2.ensures.most))
          (rule_for c.args.league.now c.args.schedule.now c.in-Some.i c.teams.ensures.limits c.requires.same_size c.rule-rule.result.now
          c.rule-rule.ensures.value) in
          rest_taken c.args.league.now.rules c.args.scope.now _ (λ i. has c.next.new.self i || others i) c.in-Some.i c.args.schedule.now _ _
          c.rule-rule.result.now _
          (omega (
            arith,
            lowest_below _ _ _ _ c.loop-i.invariant.counted.below c.in-Some.ensures.steps,
            c.teams.ensures.limits.rule_count,
            c.loop-i.invariant.next_length,
          ))
          lacks
          (ap (λ b. b || others c.in-Some.i) (lowest_gone _ _ _ c.in-Some.ensures.steps) ∙ apart c.in-Some.i in_rules)
          (λ k elsewhere. ap (λ b. b || others k) (others_kept _ _ _ k c.in-Some.ensures.steps elsewhere))
          c.rule-rule.ensures.value (omega (arith, c.saturating_add.ensures, c.rest.ensures, c.deviation_part-part.ensures.value, left, small)) rests;
    }

pub returns-clause-cost : goal.returns-clause-cost
returns-clause-cost c =
    all_counted c.args.league.now c.args.scope.now c.args.schedule.now c.args.rules c.args.before c.loop-i.cost _ c.in-None.ensures.steps.0
    c.loop-i.invariant.counted

pub returns-clause-whole : goal.returns-clause-whole
returns-clause-whole c = λ others apart before known.
    rests_same c.args.league.now.rules c.args.scope.now _ _ c.args.schedule.now _ _
    (λ i. ap (λ b. b || others i) (ap (λ set. has set i) c.in-None.ensures.steps.0 ∙ has_empty i))
    (c.loop-i.invariant.rests others apart before known)
