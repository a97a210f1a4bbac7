use Rattle.std.proofs.Common.{◌&&◌, ◌||◌, ◌==◌, ap, arith, ◌∙◌}
use Rattle.league.specs.Sets.{has}
use Rattle.league.proofs.ForCallers.{lowest_below}
use Rattle.rules.proofs.unaltered.AroundOwn.{guests_none, guests_more, guests_all}
use Rattle.rules.proofs.around.around_own.Goals as goal

pub loop-team-init : goal.loop-team-init
loop-team-init c =
    guests_none c.args.schedule.now c.args.main c.args.rounds c.args.teams _ _
    (omega (arith, c.into_iter-team-iterator.ensures.into_iter_gives, c.difference-others.ensures.below _ c.requires.teams))
    (c.intersection-around.ensures.below _ c.requires.teams)
    (λ t. ap (λ s. has s t) c.into_iter-team-iterator.ensures.into_iter_gives ∙ c.difference-others.ensures.members t)
    c.intersection-around.ensures.members

pub is_guest-guest-requires-clause-team : goal.is_guest-guest-requires-clause-team
is_guest-guest-requires-clause-team c = lowest_below _ _ _ _ c.loop-team.invariant.below c.in-Some.ensures.steps

pub with_if-around-requires : goal.with_if-around-requires
with_if-around-requires c =
    omega (arith, lowest_below _ _ _ _ c.loop-team.invariant.below c.in-Some.ensures.steps, c.requires.round_robin.most)

pub loop-team-preserved : goal.loop-team-preserved
loop-team-preserved c =
    guests_more c.args.schedule.now c.args.main c.args.rounds c.args.teams _ _ _ _ _ c.loop-team.invariant c.in-Some.ensures.steps
    (c.with_if-around.ensures.below _ c.loop-team.invariant.around_below
    (lowest_below _ _ _ _ c.loop-team.invariant.below c.in-Some.ensures.steps))
    (λ t. c.with_if-around.ensures.members t ∙
    ap (λ b. (t == c.in-Some.team && b) || has c.loop-team.around t) c.is_guest-guest.ensures)

pub returns-clause-members : goal.returns-clause-members
returns-clause-members c = guests_all _ _ _ _ _ _ c.loop-team.invariant c.in-None.ensures.steps.0

pub returns-clause-below : goal.returns-clause-below
returns-clause-below c = c.loop-team.invariant.around_below
