use Rattle.std.proofs.Common.{refl, arith}
use Rattle.league.specs.Sets.{has}
use Rattle.league.specs.Starts.{start_round}
use Rattle.tours.proofs.legs.TwoTotals.{totals_begun, next_in, totals_more, totals_ended}
use Rattle.tours.proofs.moved_counts.MovedDelta.{rounds_delta}
use Rattle.tours.proofs.moved_delta.moved_of_rounds.Goals as goal

pub loop-team-init : goal.loop-team-init
loop-team-init c =
    totals_begun _ _ _ _ _ _ (omega (arith, c.into_iter-team-iterator.ensures.into_iter_gives)) refl

pub moved_of_team-moved-requires-clause-team : goal.moved_of_team-moved-requires-clause-team
moved_of_team-moved-requires-clause-team c =
    (next_in _ _ _ _ _ _ _ _ _ _ c.loop-team.invariant c.in-Some.ensures.steps).0

pub loop-team-preserved : goal.loop-team-preserved
loop-team-preserved c =
    totals_more _ _ _ _ _ _ _ _ _ _ _ _ c.loop-team.invariant c.in-Some.ensures.steps c.moved_of_team-moved.ensures.before
    c.moved_of_team-moved.ensures.after c.moved_of_team-moved.ensures.before_limit c.moved_of_team-moved.ensures.after_limit

pub returns-clause-balance : goal.returns-clause-balance
returns-clause-balance c =
    rw (
      (totals_ended _ _ _ _ _ _ _ _ c.loop-team.invariant c.in-None.ensures.steps.0).before,
      (totals_ended _ _ _ _ _ _ _ _ c.loop-team.invariant c.in-None.ensures.steps.0).after,
      c.into_iter-team-iterator.ensures.into_iter_gives,
    )
    (rounds_delta (start_round c.args.league.now) c.args.schedule.now c.teams_in-teams.ensures.round_robin c.args.k c.args.l
    (record { home_in = c.requires.k; away_in = c.requires.l; distinct = c.requires.distinct })
    (has c.args.among) (has c.teams_in-teams.result) c.teams_in-teams.ensures.members)
