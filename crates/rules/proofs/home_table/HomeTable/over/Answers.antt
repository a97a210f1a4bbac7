use Rattle.std.proofs.Common.{◌<◌, arith, refl, ◌∙◌}
use Rattle.league.specs.Limits.{max_teams}
use Rattle.league.proofs.ForCallers.{sum_without_none, sum_without_more, sum_without_all, lowest_below}
use Rattle.rules.proofs.rows.HomeTables.{sum_of_lower}
use Rattle.rules.proofs.home_table.HomeTable.over.Goals as goal

pub loop-team-init : goal.loop-team-init
loop-team-init c = sum_without_none _ _ _ _ _ (omega arith) c.into_iter-team-iterator.ensures.into_iter_gives

pub lower_with-others-requires : goal.lower_with-others-requires
lower_with-others-requires c = lowest_below _ _ _ _ c.loop-team.invariant.below c.in-Some.ensures.steps

pub over_with-total-requires : goal.over_with-total-requires
over_with-total-requires c = lowest_below _ _ _ _ c.loop-team.invariant.below c.in-Some.ensures.steps

pub loop-team-preserved : goal.loop-team-preserved
loop-team-preserved c =
    let in_table : c.in-Some.team < max_teams = lowest_below _ _ _ _ c.loop-team.invariant.below c.in-Some.ensures.steps in
    sum_without_more _ _ _ _ _ _ _ _ _ c.loop-team.invariant c.in-Some.ensures.steps
    (c.over_with-total.ensures.value ∙
    sum_of_lower c.in-Some.team c.args.teams c.args.set _ _ (omega (arith, in_table)) c.lower_with-others.ensures)
    c.over_with-total.ensures.limit

pub returns : goal.returns
returns c = sum_without_all _ _ _ _ _ _ _ c.loop-team.invariant c.in-None.ensures.steps.0 (λ k below. refl)
