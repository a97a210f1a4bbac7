use Rattle.std.proofs.Common.{◌∙◌, ap, arith}
use Rattle.fixtures.specs.Exchanges.{exchanged_by}
use Rattle.costs.specs.declared.cost.Cost.{Cost}
use Rattle.costs.proofs.Scores.{cost_small, cost_travel}
use Rattle.costs.proofs.Parts.{games_le, near_le, least_scores, score_fits_after, travel_scores}
use Rattle.costs.proofs.cost_delta.predicted_within.Goals as goal

pub travel_after-travel-requires-clause-known : goal.travel_after-travel-requires-clause-known
travel_after-travel-requires-clause-known c = ap (λ (cost : Cost). cost.travel) c.requires.known ∙ cost_travel _ _

pub returns-then-travel-limit : goal.returns-then-travel-limit
returns-then-travel-limit c =
    omega (
      arith,
      travel_scores c.args.league.now c.args.attempt.now.weights (exchanged_by c.args.schedule.now c.args.attempt.now.exchange.now),
      c.travel_after-travel.ensures,
      c.if-travel-limit.true,
    )

pub score_by-requires : goal.score_by-requires
score_by-requires c =
    omega (
      arith,
      least_scores c.args.league.now c.args.attempt.now.weights (exchanged_by c.args.schedule.now c.args.attempt.now.exchange.now) c.streaks_of-streaks.result.after
          (omega (arith, c.streaks_of-streaks.ensures.balance, c.streaks_of-streaks.ensures.within)),
      c.travel_after-travel.ensures,
      score_fits_after c.args.league.now c.args.schedule.now c.args.attempt.now.exchange.now c.args.attempt.now.weights
          c.teams.ensures.limits c.requires.same_size c.requires.weights,
    )

pub returns-then-score_by-limit : goal.returns-then-score_by-limit
returns-then-score_by-limit c =
    omega (
      arith,
      least_scores c.args.league.now c.args.attempt.now.weights (exchanged_by c.args.schedule.now c.args.attempt.now.exchange.now) c.streaks_of-streaks.result.after
          (omega (arith, c.streaks_of-streaks.ensures.balance, c.streaks_of-streaks.ensures.within)),
      c.travel_after-travel.ensures,
      c.score_by.ensures,
      c.if-score_by-limit.true,
    )

pub overflow_add-result : goal.overflow_add-result
overflow_add-result c =
    omega (
      arith,
      ap (λ (cost : Cost). cost.hard) c.requires.known,
      (cost_small c.args.league.now c.args.schedule.now c.teams.ensures.limits c.requires.same_size).hard,
    )

pub overflow_add-result-2 : goal.overflow_add-result-2
overflow_add-result-2 c =
    omega (
      arith,
      ap (λ (cost : Cost). cost.hard) c.requires.known,
      (cost_small c.args.league.now c.args.schedule.now c.teams.ensures.limits c.requires.same_size).hard,
    )

pub overflow_sub-result : goal.overflow_sub-result
overflow_sub-result c =
    omega (
      arith,
      ap (λ (cost : Cost). cost.hard) c.requires.known,
      games_le c.args.league.now c.args.schedule.now,
      c.streaks_of-streaks.ensures.within,
    )

pub overflow_sub-result-2 : goal.overflow_sub-result-2
overflow_sub-result-2 c =
    omega (
      arith,
      ap (λ (cost : Cost). cost.hard) c.requires.known,
      games_le c.args.league.now c.args.schedule.now,
      c.streaks_of-streaks.ensures.within,
      c.repeats_delta-repeats.ensures.balance,
    )

pub overflow_add-result-3 : goal.overflow_add-result-3
overflow_add-result-3 c =
    omega (
      arith,
      ap (λ (cost : Cost). cost.soft) c.requires.known,
      c.leaving_of-leaving.ensures.after_limit,
      (cost_small c.args.league.now c.args.schedule.now c.teams.ensures.limits c.requires.same_size).soft,
    )

pub overflow_sub-result-3 : goal.overflow_sub-result-3
overflow_sub-result-3 c =
    omega (
      arith,
      ap (λ (cost : Cost). cost.soft) c.requires.known,
      near_le c.args.league.now c.args.schedule.now,
      c.leaving_of-leaving.ensures.balance,
    )

pub returns : goal.returns
returns c = record {
  travel_is = c.travel_after-travel.ensures;
  of_rules = ap (λ (cost : Cost). cost.of_rules) c.requires.known;
  hard = omega (
    arith,
    ap (λ (cost : Cost). cost.hard) c.requires.known,
    games_le c.args.league.now c.args.schedule.now,
    c.streaks_of-streaks.ensures.balance,
    c.repeats_delta-repeats.ensures.balance,
  );
  soft = omega (
    arith,
    ap (λ (cost : Cost). cost.soft) c.requires.known,
    near_le c.args.league.now c.args.schedule.now,
    c.leaving_of-leaving.ensures.balance,
  );
}
