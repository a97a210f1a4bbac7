use Rattle.std.proofs.Common.{◌||◌, ◌==◌, ap, arith, ◌∙◌}
use Rattle.league.specs.Sets.{has}
use Rattle.league.proofs.ForCallers.{lowest_below}
use Rattle.fixtures.specs.declared.game.Cell.{Cell}
use Rattle.rules.proofs.rows.MetPairs.{met_in_none, met_in_more, met_in_all}
use Rattle.rules.proofs.around.met_in.Goals as goal

pub loop-round-init : goal.loop-round-init
loop-round-init c =
    met_in_none c.args.schedule.now c.requires.round_robin c.args.team _ _ _
    (omega (arith, c.into_iter-round-iterator.ensures.into_iter_gives, c.requires.rounds))
    (λ r in_r. ap (λ s. has s r) c.into_iter-round-iterator.ensures.into_iter_gives)
    (c.empty-met.ensures.below _) c.empty-met.ensures.members

pub game_at-requires-clause-round : goal.game_at-requires-clause-round
game_at-requires-clause-round c = lowest_below _ _ _ _ c.loop-round.invariant.below c.in-Some.ensures.steps

pub with-met-requires : goal.with-met-requires
with-met-requires c = omega (arith, c.game_at.ensures.cell.pair.away_in, c.requires.round_robin.most)

pub loop-round-preserved : goal.loop-round-preserved
loop-round-preserved c =
    met_in_more c.args.schedule.now c.requires.round_robin c.args.team _ _ _ _ _ _ c.requires.team
    (lowest_below _ _ _ _ c.loop-round.invariant.below c.in-Some.ensures.steps) c.loop-round.invariant c.in-Some.ensures.steps
    (c.with-met.ensures.below _ c.loop-round.invariant.in_teams c.game_at.ensures.cell.pair.away_in)
    (λ t. c.with-met.ensures.members t ∙
    ap (λ (game : Cell). t == game.opponent || has c.loop-round.met t) c.game_at.ensures.value)

pub returns-clause-members : goal.returns-clause-members
returns-clause-members c = met_in_all _ _ _ _ _ c.loop-round.invariant c.in-None.ensures.steps.0

pub returns-clause-below : goal.returns-clause-below
returns-clause-below c = c.loop-round.invariant.in_teams
