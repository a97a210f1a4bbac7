use Rattle.std.proofs.Common.{◌&&◌, ap, refl, arith, ◌∙◌}
use Rattle.std.proofs.Math.Bool.{and_comm}
use Rattle.league.specs.Sets.{has}
use Rattle.league.proofs.ForCallers.{sum_without_none, sum_without_more, sum_without_all, sum_where_same, lowest_below}
use Rattle.rules.specs.Deviations.{over, rounds_between}
use Rattle.rules.specs.Parts.{meet_in, changing_terms}
use Rattle.rules.proofs.rows.MetPairs.{counted_same, pairs_at_main, meet_in_swapped, rounds_between_swapped}
use Rattle.rules.proofs.classes.se1.se1_part.Goals as goal

pub loop-team-init : goal.loop-team-init
loop-team-init c =
    sum_without_none _ _ _ _ _
    (omega (arith, c.into_iter-team-iterator.ensures.into_iter_gives, c.intersection-counting.ensures.below _ c.requires.teams)) refl

pub opponents_in-requires-clause-team : goal.opponents_in-requires-clause-team
opponents_in-requires-clause-team c = lowest_below _ _ _ _ c.loop-team.invariant.below c.in-Some.ensures.steps

pub short_with-total-requires-clause-team : goal.short_with-total-requires-clause-team
short_with-total-requires-clause-team c = lowest_below _ _ _ _ c.loop-team.invariant.below c.in-Some.ensures.steps

pub loop-team-preserved : goal.loop-team-preserved
loop-team-preserved c =
    sum_without_more _ _ _ _ _ _ _ _ _ c.loop-team.invariant c.in-Some.ensures.steps
    (c.short_with-total.ensures.value ∙
    sum_where_same c.args.schedule.now.teams _ _ _ _
    (counted_same c.args.schedule.now c.args.change.now.main c.in-Some.team (has c.intersection-met.result)
    (λ t. has c.args.teams t && meet_in c.args.schedule.now (has c.args.change.now.rounds) t c.in-Some.team)
    (lowest_below _ _ _ _ c.loop-team.invariant.below c.in-Some.ensures.steps)
    (λ t pair. c.intersection-met.ensures.members t ∙ and_comm _ (has c.args.teams t) ∙
    ap (λ b. has c.args.teams t && b) (c.opponents_in.ensures.members t pair)))
    (λ t in_t is. refl))
    c.short_with-total.ensures.most

pub returns : goal.returns
unfolding changing_terms
returns c =
    sum_without_all _ _ _ _ _ _ _ c.loop-team.invariant c.in-None.ensures.steps.0
    (λ k below.
    ap (λ s. has s k) c.into_iter-team-iterator.ensures.into_iter_gives ∙ c.intersection-counting.ensures.members k) ∙
    pairs_at_main c.args.schedule.now.teams c.args.teams c.args.change.now.main (meet_in c.args.schedule.now (has c.args.change.now.rounds))
    (λ i j. over c.args.least (rounds_between c.args.schedule.now i j))
    (meet_in_swapped c.args.schedule.now (has c.args.change.now.rounds))
    (λ i j. ap (over c.args.least) (rounds_between_swapped c.args.schedule.now i j))
