use Rattle.std.proofs.Common.{refl, arith}
use Rattle.league.specs.Sets.{has}
use Rattle.tours.proofs.streaks_and_repeats.StreaksDelta.{part_of_streaks, rounds_delta}
use Rattle.tours.proofs.legs.TwoTotals.{totals_begun, next_in, totals_more, totals_ended}
use Rattle.tours.proofs.streaks_delta.streaks_of_rounds.Goals as goal

pub loop-team-init : goal.loop-team-init
loop-team-init c =
    totals_begun _ _ _ _ _ _ (omega (arith, c.into_iter-team-iterator.ensures.into_iter_gives)) refl

pub flipped_streaks-streaks-requires-clause-team : goal.flipped_streaks-streaks-requires-clause-team
flipped_streaks-streaks-requires-clause-team c =
    (next_in _ _ _ _ _ _ _ _ _ _ c.loop-team.invariant c.in-Some.ensures.steps).0

pub loop-team-preserved : goal.loop-team-preserved
loop-team-preserved c =
    totals_more _ _ _ _ _ _ _ _ _ _ _ _ c.loop-team.invariant c.in-Some.ensures.steps c.flipped_streaks-streaks.ensures.before
    c.flipped_streaks-streaks.ensures.after c.flipped_streaks-streaks.ensures.before_limit c.flipped_streaks-streaks.ensures.after_limit

pub returns-clause-balance : goal.returns-clause-balance
returns-clause-balance c =
    rw (
      (totals_ended _ _ _ _ _ _ _ _ c.loop-team.invariant c.in-None.ensures.steps.0).before,
      (totals_ended _ _ _ _ _ _ _ _ c.loop-team.invariant c.in-None.ensures.steps.0).after,
      c.into_iter-team-iterator.ensures.into_iter_gives,
      c.at_most-at_most.ensures.value,
    )
    (rounds_delta c.args.schedule.now c.teams_in-teams.ensures.round_robin c.args.k c.args.l
    (record { home_in = c.requires.k; away_in = c.requires.l; distinct = c.requires.distinct })
    (has c.args.among) c.requires.closed c.args.league.now.at_most (has c.teams_in-teams.result) c.teams_in-teams.ensures.members)

pub returns-clause-within : goal.returns-clause-within
returns-clause-within c =
    rw ((totals_ended _ _ _ _ _ _ _ _ c.loop-team.invariant c.in-None.ensures.steps.0).before, c.at_most-at_most.ensures.value)
    (part_of_streaks c.args.schedule.now c.args.league.now.at_most _ _)
