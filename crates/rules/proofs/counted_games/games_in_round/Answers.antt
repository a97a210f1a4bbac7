use Rattle.std.proofs.Common.{arith, refl, ◌∙◌}
use Rattle.rules.specs.Deviations.{is_counted, games_in_round}
use Rattle.rules.proofs.walks.Sets.{count_of_both}
use Rattle.league.specs.Sets.{has}
use Rattle.league.proofs.ForCallers.{sum_without_none, sum_without_more, sum_without_all, lowest_below}
use Rattle.rules.proofs.counted_games.games_in_round.Goals as goal

pub loop-team-init : goal.loop-team-init
loop-team-init c = sum_without_none _ _ _ _ _ (omega arith) c.into_iter-team-iterator.ensures.into_iter_gives

pub is_counted-requires-clause-team : goal.is_counted-requires-clause-team
is_counted-requires-clause-team c = lowest_below _ _ _ _ c.loop-team.invariant.below c.in-Some.ensures.steps

pub loop-team-preserved : goal.loop-team-preserved
loop-team-preserved c = sum_without_more _ _ _ _ _ _ _ _ _ c.loop-team.invariant c.in-Some.ensures.steps (grind arith) (grind arith)

pub returns-clause-value : goal.returns-clause-value
unfolding games_in_round
returns-clause-value c =
    sum_without_all _ _ _ _ _ _ _ c.loop-team.invariant c.in-None.ensures.steps.0 (λ k below. refl) ∙
    count_of_both _ (has c.args.games.now.teams)
    (λ t. is_counted c.args.schedule.now c.args.games.now.side (has c.args.games.now.opponents) t c.args.round)
