use Rattle.std.proofs.Common.{ℕ, nat_lt, ◌∙◌, ap, subst, sym, arith}
use Rattle.std.proofs.lemmas.Bool.{eqb-true}
use Rattle.league.specs.Sets.{has, IsBelow}
use Rattle.league.proofs.ForCallers.{lowest_below}
use Rattle.rules.proofs.unaltered.AroundMain.{around_none, around_more, around_all, all_around}
use Rattle.rules.proofs.around.around_main.Goals as goal

pub returns-then-eq-clause-members : goal.returns-then-eq-clause-members
returns-then-eq-clause-members c =
    all_around c.args.schedule.now _ _ _ _ _ _ _ c.loop-team.invariant c.requires.teams (eqb-true _ _ (sym c.eq.ensures ∙ c.if-eq.true))
    c.intersection.ensures.members

pub loop-team-init : goal.loop-team-init
loop-team-init c =
    around_none c.args.schedule.now _ _ c.below.result _
    (subst (λ (n : ℕ). IsBelow n c.into_iter-team-iterator.result) c.teams.ensures.number
    (omega (arith, c.into_iter-team-iterator.ensures.into_iter_gives, c.intersection-playing.ensures.below _ c.below.ensures.below)))
    (λ k. ap (λ s. has s k) c.into_iter-team-iterator.ensures.into_iter_gives ∙ c.intersection-playing.ensures.members k)

pub opponents_in-requires-clause-team : goal.opponents_in-requires-clause-team
opponents_in-requires-clause-team c = lowest_below _ _ _ _ c.loop-team.invariant.below c.in-Some.ensures.steps

pub loop-team-preserved : goal.loop-team-preserved
loop-team-preserved c =
    around_more c.args.schedule.now c.requires.round_robin _ _ _ _ _ _ _ _ _
    (lowest_below _ _ _ _ c.loop-team.invariant.below c.in-Some.ensures.steps) c.loop-team.invariant c.in-Some.ensures.steps
    c.opponents_in.ensures.members c.union-around.ensures.members

pub returns-clause-members : goal.returns-clause-members
returns-clause-members c = λ t.
    c.intersection-2.ensures.members t ∙
    around_all c.args.schedule.now c.requires.round_robin c.args.main c.args.rounds c.below.result _ _ _ c.args.teams c.loop-team.invariant
    c.in-None.ensures.steps.0 (λ k. c.below.ensures.members k ∙ ap (nat_lt k) c.teams.ensures.number)
    (λ k. ap (λ s. has s k) c.into_iter-team-iterator.ensures.into_iter_gives ∙ c.intersection-playing.ensures.members k)
    c.requires.teams t
