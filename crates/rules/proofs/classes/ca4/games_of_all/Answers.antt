use Rattle.std.proofs.Common.{arith, refl, ◌∙◌}
use Rattle.league.specs.Sets.{has}
use Rattle.league.proofs.ForCallers.{sum_without_none, sum_without_more, sum_without_all, lowest_below}
use Rattle.rules.proofs.counted.CountedRounds.{together_by_teams}
use Rattle.rules.proofs.classes.ca4.games_of_all.Goals as goal

pub loop-team-init : goal.loop-team-init
loop-team-init c = sum_without_none _ _ _ _ _ (omega arith) c.into_iter-team-iterator.ensures.into_iter_gives

pub games_of_team-count-requires-clause-team : goal.games_of_team-count-requires-clause-team
games_of_team-count-requires-clause-team c = lowest_below _ _ _ _ c.loop-team.invariant.below c.in-Some.ensures.steps

pub loop-team-preserved : goal.loop-team-preserved
loop-team-preserved c = sum_without_more _ _ _ _ _ _ _ _ _ c.loop-team.invariant c.in-Some.ensures.steps c.games_of_team-count.ensures.value
    c.games_of_team-count.ensures.most

pub returns : goal.returns
returns c =
    sum_without_all _ _ _ _ _ _ _ c.loop-team.invariant c.in-None.ensures.steps.0 (λ k below. refl) ∙
    together_by_teams c.args.schedule.now c.args.games.now.side (has c.args.games.now.teams) (has c.args.games.now.opponents)
    (has c.args.slots)
