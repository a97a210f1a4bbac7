use Rattle.std.proofs.Common.{arith}
use Rattle.fixtures.specs.Exchanges.{exchanged_by}
use Rattle.costs.proofs.PartLimits.{hard_fits, of_rules_fits, soft_fits}
use Rattle.costs.proofs.Parts.{rest_after, rest_scores, score_fits_after}
use Rattle.costs.proofs.Walked.{parts_within}
use Rattle.costs.proofs.counted.rest_within.Goals as goal

-- the cost without what the exchange can alter scores no more than the schedule after it

pub without-rest-requires-clause-hard : goal.without-rest-requires-clause-hard
without-rest-requires-clause-hard c =
    omega (
      arith,
      hard_fits c.args.league.now c.args.scope.now c.args.schedule.now _ _ c.requires.predicted,
      c.phases_part-halves.ensures.value,
      (parts_within c.args.league.now c.args.scope.now c.args.schedule.now c.teams.ensures.limits c.requires.same_size
          c.teams-2.ensures.round_robin c.requires.rules).hard,
      c.parts_of_rules-parts.ensures.hard,
    )

pub without-rest-requires-clause-of_rules : goal.without-rest-requires-clause-of_rules
without-rest-requires-clause-of_rules c =
    omega (
      arith,
      of_rules_fits c.args.league.now c.args.scope.now c.args.schedule.now _ _ c.requires.predicted,
      (parts_within c.args.league.now c.args.scope.now c.args.schedule.now c.teams.ensures.limits c.requires.same_size
          c.teams-2.ensures.round_robin c.requires.rules).hard,
      c.parts_of_rules-parts.ensures.hard,
    )

pub without-rest-requires-clause-soft : goal.without-rest-requires-clause-soft
without-rest-requires-clause-soft c =
    omega (
      arith,
      soft_fits c.args.league.now c.args.scope.now c.args.schedule.now _ _ c.requires.predicted,
      (parts_within c.args.league.now c.args.scope.now c.args.schedule.now c.teams.ensures.limits c.requires.same_size
          c.teams-2.ensures.round_robin c.requires.rules).soft,
      c.parts_of_rules-parts.ensures.soft,
    )

pub score_by-requires : goal.score_by-requires
score_by-requires c =
    omega (
      arith,
      rest_scores c.args.league.now c.args.scope.now.attempt.weights c.args.scope.now
          (exchanged_by c.args.schedule.now c.args.scope.now.attempt.exchange.now) c.without-rest.result
          (rest_after c.args.league.now c.args.schedule.now c.args.scope.now c.args.predicted c.without-rest.result _ _ c.teams.ensures.limits
          c.requires.same_size c.requires.scope c.requires.predicted c.without-rest.ensures c.phases_part-halves.ensures.value
          c.parts_of_rules-parts.ensures.hard c.parts_of_rules-parts.ensures.soft),
      score_fits_after c.args.league.now c.args.schedule.now c.args.scope.now.attempt.exchange.now c.args.scope.now.attempt.weights
          c.teams.ensures.limits c.requires.same_size c.requires.weights,
    )

pub returns-then-score_by-limit-clause-rest : goal.returns-then-score_by-limit-clause-rest
returns-then-score_by-limit-clause-rest c =
    omega (
      arith,
      rest_scores c.args.league.now c.args.scope.now.attempt.weights c.args.scope.now
          (exchanged_by c.args.schedule.now c.args.scope.now.attempt.exchange.now) c.without-rest.result
          (rest_after c.args.league.now c.args.schedule.now c.args.scope.now c.args.predicted c.without-rest.result _ _ c.teams.ensures.limits
          c.requires.same_size c.requires.scope c.requires.predicted c.without-rest.ensures c.phases_part-halves.ensures.value
          c.parts_of_rules-parts.ensures.hard c.parts_of_rules-parts.ensures.soft),
      c.score_by.ensures,
      c.if-score_by-limit.true,
    )

pub returns-clause-rest : goal.returns-clause-rest
returns-clause-rest c =
    rest_after c.args.league.now c.args.schedule.now c.args.scope.now c.args.predicted c.without-rest.result _ _ c.teams.ensures.limits
    c.requires.same_size c.requires.scope c.requires.predicted c.without-rest.ensures c.phases_part-halves.ensures.value
    c.parts_of_rules-parts.ensures.hard c.parts_of_rules-parts.ensures.soft
