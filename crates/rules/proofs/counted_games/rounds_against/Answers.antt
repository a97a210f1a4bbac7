use Rattle.std.proofs.Common.{arith}
use Rattle.league.proofs.ForCallers.{lowest_below}
use Rattle.rules.proofs.counted.OpponentRounds.{met_none, met_more, met_all}
use Rattle.rules.proofs.counted_games.rounds_against.Goals as goal

pub loop-opponent-init : goal.loop-opponent-init
loop-opponent-init c =
    met_none c.args.schedule.now c.requires.round_robin c.args.team c.requires.team _ _ _ _ (omega arith)
    c.into_iter-opponent-iterator.ensures.into_iter_gives (c.empty-against.ensures.below _) c.empty-against.ensures.members

pub rounds_with-requires-clause-opponent : goal.rounds_with-requires-clause-opponent
rounds_with-requires-clause-opponent c = lowest_below _ _ _ _ c.loop-opponent.invariant.below c.in-Some.ensures.steps

pub loop-opponent-preserved : goal.loop-opponent-preserved
loop-opponent-preserved c =
    met_more c.args.schedule.now c.requires.round_robin c.args.team c.requires.team _ _ _ _ _ _ _ _ c.loop-opponent.invariant
    c.in-Some.ensures.steps c.rounds_with.ensures.members c.union-against.ensures.members
    (c.union-against.ensures.below _ c.loop-opponent.invariant.season c.rounds_with.ensures.below)

pub returns-clause-members : goal.returns-clause-members
returns-clause-members c =
    met_all c.args.schedule.now c.requires.round_robin c.args.team c.requires.team _ _ _ _ c.loop-opponent.invariant
    c.in-None.ensures.steps.0

pub returns-clause-below : goal.returns-clause-below
returns-clause-below c = c.loop-opponent.invariant.season
