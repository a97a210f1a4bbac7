use Rattle.std.proofs.Common.{arith, refl, ◌∙◌}
use Rattle.rules.specs.Deviations.{deviation}
use Rattle.league.proofs.ForCallers.{sum_without_none, sum_without_more, sum_without_all, lowest_below}
use Rattle.rules.proofs.counted.CountedRounds.{breaks_in_slots}
use Rattle.rules.proofs.classes.br1.br1.Goals as goal

pub loop-team-init : goal.loop-team-init
loop-team-init c = sum_without_none _ _ _ _ _ (omega arith) c.into_iter-team-iterator.ensures.into_iter_gives

pub breaks_from-requires-clause-team : goal.breaks_from-requires-clause-team
breaks_from-requires-clause-team c = lowest_below _ _ _ _ c.loop-team.invariant.below c.in-Some.ensures.steps

pub loop-team-preserved : goal.loop-team-preserved
loop-team-preserved c = sum_without_more _ _ _ _ _ _ _ _ _ c.loop-team.invariant c.in-Some.ensures.steps
    (rw (c.breaks_from.ensures.value ∙
    breaks_in_slots c.args.schedule.now c.args.side c.in-Some.team _ c.args.slots c.rounds_before-firsts.ensures.members)
    at c.over-total.ensures.value)
    (omega arith)

pub returns : goal.returns
unfolding deviation
returns c = sum_without_all _ _ _ _ _ _ _ c.loop-team.invariant c.in-None.ensures.steps.0 (λ k below. refl)
