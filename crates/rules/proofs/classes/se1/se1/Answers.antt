use Rattle.std.proofs.Common.{ap, refl, arith, ◌∙◌}
use Rattle.league.proofs.ForCallers.{sum_without_none, sum_without_more, sum_without_all, lowest_below}
use Rattle.rules.specs.Deviations.{over, rounds_between, short_pairs, deviation}
use Rattle.rules.proofs.rows.MetPairs.{pairs_at_all, rounds_between_swapped}
use Rattle.rules.proofs.classes.se1.se1.Goals as goal

pub loop-team-init : goal.loop-team-init
loop-team-init c = sum_without_none _ _ _ _ _ (omega arith) c.into_iter-team-iterator.ensures.into_iter_gives

pub short_with-total-requires-clause-team : goal.short_with-total-requires-clause-team
short_with-total-requires-clause-team c = lowest_below _ _ _ _ c.loop-team.invariant.below c.in-Some.ensures.steps

pub loop-team-preserved : goal.loop-team-preserved
loop-team-preserved c = sum_without_more _ _ _ _ _ _ _ _ _ c.loop-team.invariant c.in-Some.ensures.steps
    c.short_with-total.ensures.value c.short_with-total.ensures.most

pub returns : goal.returns
unfolding deviation short_pairs
returns c =
    sum_without_all _ _ _ _ _ _ _ c.loop-team.invariant c.in-None.ensures.steps.0 (λ k below. refl) ∙
    pairs_at_all c.args.schedule.now.teams c.args.teams (λ i j. over c.args.least (rounds_between c.args.schedule.now i j))
    (λ i j. ap (over c.args.least) (rounds_between_swapped c.args.schedule.now i j))
