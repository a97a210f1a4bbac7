use Rattle.std.proofs.Common.{◌≡◌, ◌+◌, ◌<◌, length, refl, ◌∙◌, sym, ap, true, true≢false, arith}
use Rattle.std.proofs.lemmas.List.{length-set}
use Rattle.league.specs.Limits.{deviation_limit}
use Rattle.league.specs.Sets.{has, IsBelow}
use Rattle.league.proofs.ForCallers.{lowest_below}
use Rattle.rules.specs.Deviations.{deviation}
use Rattle.rules.proofs.ForCallers.{deviation_below, part_le}
use Rattle.costs.specs.Costs.{hard_penalty, soft_penalty}
use Rattle.costs.proofs.KeptDeviations.{rest_more, rests_all}
use Rattle.costs.proofs.KnownRests.{adds_within, known_of_broken, rest_begun, rest_grows, rest_scores_less, rest_whole, stays_told}
use Rattle.costs.proofs.PartLimits.{hard_fits, of_rules_fits, soft_fits}
use Rattle.costs.proofs.Parts.{rule_for, score_fits_after}
use Rattle.costs.proofs.counted.rest_of_known.Goals as goal

pub without-rest-requires-clause-hard : goal.without-rest-requires-clause-hard
without-rest-requires-clause-hard c =
    omega (
      arith,
      hard_fits c.args.league.now c.args.scope.now c.args.schedule.now _ _ c.requires.predicted,
      c.requires.halves,
      ap (λ p. p.hard) c.known_penalties-penalties.ensures,
    )

pub without-rest-requires-clause-of_rules : goal.without-rest-requires-clause-of_rules
without-rest-requires-clause-of_rules c =
    omega (
      arith,
      of_rules_fits c.args.league.now c.args.scope.now c.args.schedule.now _ _ c.requires.predicted,
      ap (λ p. p.hard) c.known_penalties-penalties.ensures,
    )

pub without-rest-requires-clause-soft : goal.without-rest-requires-clause-soft
without-rest-requires-clause-soft c =
    omega (
      arith,
      soft_fits c.args.league.now c.args.scope.now c.args.schedule.now _ _ c.requires.predicted,
      ap (λ p. p.soft) c.known_penalties-penalties.ensures,
    )

pub loop-i-init : goal.loop-i-init
loop-i-init c =
    let below : IsBelow (length c.args.league.now.rules) c.into_iter-i-iterator.result =
    rw c.into_iter-i-iterator.ensures.into_iter_gives (c.intersection-broken.ensures.below _ c.requires.rules.below) in
    let known = known_of_broken c.args.league.now c.args.scope.now c.args.schedule.now c.args.deviations.now c.into_iter-i-iterator.result _
    c.requires.deviations c.requires.known
    (λ i. ap (λ set. has set i) c.into_iter-i-iterator.ensures.into_iter_gives ∙ c.intersection-broken.ensures.members i)
    c.known_penalties-penalties.ensures in
    record {
      rest = rest_begun _ _ _ _ _ _ _ _ _ below refl c.without-rest.ensures known.0 known.1;
      same = record { known = refl; kept = refl; broken = refl };
      next_length = c.requires.deviations.next_length;
      rests = λ is_known k rule at in_walked gone. absurd (true≢false (sym in_walked ∙ gone));
    }

pub score_by-requires : goal.score_by-requires
score_by-requires c =
    omega (
      arith,
      rest_scores_less c.args.league.now c.args.scope.now c.args.schedule.now c.args.deviations.now c.into_iter-i-iterator.result
          c.teams.ensures.limits c.requires.same_size c.teams-2.ensures.round_robin c.requires.rules c.requires.deviations c.requires.known
          (λ i. ap (λ set. has set i) c.into_iter-i-iterator.ensures.into_iter_gives ∙ c.intersection-broken.ensures.members i)
          c.args.predicted c.args.halves c.loop-i.i-iterator c.loop-i.rest c.requires.scope c.requires.predicted c.requires.halves
          c.loop-i.invariant.rest c.args.scope.now.attempt.weights,
      score_fits_after c.args.league.now c.args.schedule.now c.args.scope.now.attempt.exchange.now c.args.scope.now.attempt.weights
          c.teams.ensures.limits c.requires.same_size c.requires.weights,
    )

pub returns-then-score_by-limit-clause-rest : goal.returns-then-score_by-limit-clause-rest
returns-then-score_by-limit-clause-rest c =
    omega (
      arith,
      rest_scores_less c.args.league.now c.args.scope.now c.args.schedule.now c.args.deviations.now c.into_iter-i-iterator.result
          c.teams.ensures.limits c.requires.same_size c.teams-2.ensures.round_robin c.requires.rules c.requires.deviations c.requires.known
          (λ i. ap (λ set. has set i) c.into_iter-i-iterator.ensures.into_iter_gives ∙ c.intersection-broken.ensures.members i)
          c.args.predicted c.args.halves c.loop-i.i-iterator c.loop-i.rest c.requires.scope c.requires.predicted c.requires.halves
          c.loop-i.invariant.rest c.args.scope.now.attempt.weights,
      c.score_by.ensures,
      c.if-score_by-limit.true,
    )

pub rule-rule-requires : goal.rule-rule-requires
rule-rule-requires c = lowest_below _ _ _ _ c.loop-i.invariant.rest.below c.in-Some.ensures.steps

pub offset_bounds-deviations-i : goal.offset_bounds-deviations-i
offset_bounds-deviations-i c =
    omega (arith, lowest_below _ _ _ _ c.loop-i.invariant.rest.below c.in-Some.ensures.steps, c.teams.ensures.limits.rule_count)

pub bounds-deviations-i : goal.bounds-deviations-i
bounds-deviations-i c =
    omega (arith, lowest_below _ _ _ _ c.loop-i.invariant.rest.below c.in-Some.ensures.steps, c.teams.ensures.limits.rule_count)

pub offset_bounds-deviations-i-in-loop-i : goal.offset_bounds-deviations-i-in-loop-i
offset_bounds-deviations-i-in-loop-i c =
    omega (arith, lowest_below _ _ _ _ c.loop-i.invariant.rest.below c.in-Some.ensures.steps, c.teams.ensures.limits.rule_count)

pub bounds-deviations-i-in-loop-i : goal.bounds-deviations-i-in-loop-i
bounds-deviations-i-in-loop-i c =
    omega (arith, lowest_below _ _ _ _ c.loop-i.invariant.rest.below c.in-Some.ensures.steps, c.teams.ensures.limits.rule_count)

pub of_rule-added-requires-clause-deviation : goal.of_rule-added-requires-clause-deviation
of_rule-added-requires-clause-deviation c =
    let rule = c.rule-rule.result.now in
    let stays = c.from-in-loop-i.ensures ∙ c.saturating_sub-stays.ensures ∙
    stays_told c.args.league.now c.args.scope.now c.args.schedule.now c.args.deviations.now _ c.in-Some.i _ rule c.requires.deviations c.requires.known
    c.loop-i.invariant.same.kept c.rule-rule.ensures.value c.deviation_part-part.ensures.value in
    let small : deviation c.args.schedule.now rule.body < deviation_limit =
    deviation_below c.args.schedule.now rule.body (omega (arith, c.teams-2.ensures.number, c.teams-2.ensures.most))
    (rule_for c.args.league.now c.args.schedule.now c.in-Some.i c.teams.ensures.limits c.requires.same_size rule c.rule-rule.ensures.value) in
    omega (arith, small, stays)

pub overflow_add-rest : goal.overflow_add-rest
overflow_add-rest c =
    let rule = c.rule-rule.result.now in
    let stays = c.from-in-loop-i.ensures ∙ c.saturating_sub-stays.ensures ∙
    stays_told c.args.league.now c.args.scope.now c.args.schedule.now c.args.deviations.now _ c.in-Some.i _ rule c.requires.deviations c.requires.known
    c.loop-i.invariant.same.kept c.rule-rule.ensures.value c.deviation_part-part.ensures.value in
    let adds = adds_within c.args.league.now c.args.scope.now c.args.schedule.now c.args.predicted c.args.halves c.into_iter-i-iterator.result _ _ _
    c.loop-i.rest rule c.teams.ensures.limits c.requires.same_size c.requires.predicted c.loop-i.invariant.rest c.in-Some.ensures.steps
    c.rule-rule.ensures.value in
    omega (arith, adds.hard, c.of_rule-added.ensures.hard, ap (hard_penalty rule.weight) stays)

pub overflow_add-rest-in-loop-i : goal.overflow_add-rest-in-loop-i
overflow_add-rest-in-loop-i c =
    let rule = c.rule-rule.result.now in
    let stays = c.from-in-loop-i.ensures ∙ c.saturating_sub-stays.ensures ∙
    stays_told c.args.league.now c.args.scope.now c.args.schedule.now c.args.deviations.now _ c.in-Some.i _ rule c.requires.deviations c.requires.known
    c.loop-i.invariant.same.kept c.rule-rule.ensures.value c.deviation_part-part.ensures.value in
    let adds = adds_within c.args.league.now c.args.scope.now c.args.schedule.now c.args.predicted c.args.halves c.into_iter-i-iterator.result _ _ _
    c.loop-i.rest rule c.teams.ensures.limits c.requires.same_size c.requires.predicted c.loop-i.invariant.rest c.in-Some.ensures.steps
    c.rule-rule.ensures.value in
    omega (arith, adds.of_rules, c.of_rule-added.ensures.hard, ap (hard_penalty rule.weight) stays)

pub overflow_add-rest-in-loop-i-2 : goal.overflow_add-rest-in-loop-i-2
overflow_add-rest-in-loop-i-2 c =
    let rule = c.rule-rule.result.now in
    let stays = c.from-in-loop-i.ensures ∙ c.saturating_sub-stays.ensures ∙
    stays_told c.args.league.now c.args.scope.now c.args.schedule.now c.args.deviations.now _ c.in-Some.i _ rule c.requires.deviations c.requires.known
    c.loop-i.invariant.same.kept c.rule-rule.ensures.value c.deviation_part-part.ensures.value in
    let adds = adds_within c.args.league.now c.args.scope.now c.args.schedule.now c.args.predicted c.args.halves c.into_iter-i-iterator.result _ _ _
    c.loop-i.rest rule c.teams.ensures.limits c.requires.same_size c.requires.predicted c.loop-i.invariant.rest c.in-Some.ensures.steps
    c.rule-rule.ensures.value in
    omega (arith, adds.soft, c.of_rule-added.ensures.soft, ap (soft_penalty rule.weight) stays)

pub loop-i-preserved : goal.loop-i-preserved
loop-i-preserved c =
    let rule = c.rule-rule.result.now in
    let stays = c.from-in-loop-i.ensures ∙ c.saturating_sub-stays.ensures ∙
    stays_told c.args.league.now c.args.scope.now c.args.schedule.now c.args.deviations.now _ c.in-Some.i _ rule c.requires.deviations c.requires.known
    c.loop-i.invariant.same.kept c.rule-rule.ensures.value c.deviation_part-part.ensures.value in
    let taken = c.in-Some.ensures.steps in
    let below : c.in-Some.i < length c.args.league.now.rules = lowest_below _ _ _ _ c.loop-i.invariant.rest.below taken in
    let least = part_le c.args.schedule.now c.args.scope.now.main.teams c.args.scope.now.main.rounds c.args.scope.now.flipping rule.body in
    let hard = c.of_rule-added.ensures.hard ∙ ap (hard_penalty rule.weight) stays in
    let soft = c.of_rule-added.ensures.soft ∙ ap (soft_penalty rule.weight) stays in
    record {
      rest = rest_grows c.args.league.now c.args.scope.now c.args.schedule.now _ _ _ _ c.in-Some.i _ c.loop-i.rest _ rule c.loop-i.invariant.rest
          taken c.rule-rule.ensures.value refl (ap (λ n. c.loop-i.rest.hard + n) hard) (ap (λ n. c.loop-i.rest.of_rules + n) hard)
          (ap (λ n. c.loop-i.rest.soft + n) soft);
      same = record {
        known = c.loop-i.invariant.same.known;
        kept = c.loop-i.invariant.same.kept;
        broken = c.loop-i.invariant.same.broken;
      };
      next_length = length-set _ _ _ ∙ c.loop-i.invariant.next_length;
      rests = λ known.
          rest_more c.args.league.now.rules c.args.scope.now _ _ _ _ c.args.schedule.now c.loop-i.deviations.next rule _
          (omega (arith, below, c.teams.ensures.limits.rule_count, c.loop-i.invariant.next_length))
          taken c.rule-rule.ensures.value (omega (arith, stays, c.from-in-loop-i.ensures, least)) (c.loop-i.invariant.rests known);
    }

pub score_by-requires-2 : goal.score_by-requires-2
score_by-requires-2 c =
    omega (
      arith,
      rest_scores_less c.args.league.now c.args.scope.now c.args.schedule.now c.args.deviations.now c.into_iter-i-iterator.result
          c.teams.ensures.limits c.requires.same_size c.teams-2.ensures.round_robin c.requires.rules c.requires.deviations c.requires.known
          (λ i. ap (λ set. has set i) c.into_iter-i-iterator.ensures.into_iter_gives ∙ c.intersection-broken.ensures.members i)
          c.args.predicted c.args.halves c.loop-i.i-iterator c.loop-i.rest c.requires.scope c.requires.predicted c.requires.halves
          c.loop-i.invariant.rest c.args.scope.now.attempt.weights,
      score_fits_after c.args.league.now c.args.schedule.now c.args.scope.now.attempt.exchange.now c.args.scope.now.attempt.weights
          c.teams.ensures.limits c.requires.same_size c.requires.weights,
    )

pub returns-then-score_by-limit-2-clause-rest : goal.returns-then-score_by-limit-2-clause-rest
returns-then-score_by-limit-2-clause-rest c =
    omega (
      arith,
      rest_scores_less c.args.league.now c.args.scope.now c.args.schedule.now c.args.deviations.now c.into_iter-i-iterator.result
          c.teams.ensures.limits c.requires.same_size c.teams-2.ensures.round_robin c.requires.rules c.requires.deviations c.requires.known
          (λ i. ap (λ set. has set i) c.into_iter-i-iterator.ensures.into_iter_gives ∙ c.intersection-broken.ensures.members i)
          c.args.predicted c.args.halves c.loop-i.i-iterator c.loop-i.rest c.requires.scope c.requires.predicted c.requires.halves
          c.loop-i.invariant.rest c.args.scope.now.attempt.weights,
      c.score_by-2.ensures,
      c.if-score_by-limit-2.true,
    )

pub returns-clause-rest : goal.returns-clause-rest
returns-clause-rest c =
    rest_whole c.args.league.now c.args.scope.now c.args.schedule.now c.args.deviations.now c.into_iter-i-iterator.result
    c.teams.ensures.limits c.requires.same_size c.teams-2.ensures.round_robin c.requires.rules c.requires.deviations c.requires.known
    (λ i. ap (λ set. has set i) c.into_iter-i-iterator.ensures.into_iter_gives ∙ c.intersection-broken.ensures.members i)
    c.args.predicted c.args.halves c.loop-i.i-iterator c.loop-i.rest c.requires.scope c.requires.predicted c.requires.halves
    c.loop-i.invariant.rest c.in-None.ensures.steps.0

pub returns-clause-rests : goal.returns-clause-rests
returns-clause-rests c = λ known.
    let was_known : c.args.deviations.now.is_known ≡ true = sym c.loop-i.invariant.same.known ∙ known in
    rw c.loop-i.invariant.same.kept
    (rests_all c.args.league.now.rules c.args.scope.now c.into_iter-i-iterator.result c.loop-i.i-iterator c.args.schedule.now
    c.args.deviations.now.kept c.loop-i.deviations.next c.args.deviations.now.broken c.in-None.ensures.steps.0
    (λ i. ap (λ set. has set i) c.into_iter-i-iterator.ensures.into_iter_gives ∙ c.intersection-broken.ensures.members i)
    (c.requires.deviations.deviations was_known) (c.loop-i.invariant.rests known))
