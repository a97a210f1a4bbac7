use Rattle.std.proofs.Common.{◌==◌, ◌||◌, ◌∙◌, sym, ap}
use Rattle.league.specs.Sets.{has}
use Rattle.league.proofs.ForCallers.{lowest_below}
use Rattle.fixtures.specs.declared.game.Cell.{Cell}
use Rattle.rules.proofs.rows.MetPairs.{met_twice_none, met_again, met_first}
use Rattle.rules.proofs.around.met_twice_in.Goals as goal

pub loop-round-init : goal.loop-round-init
loop-round-init c =
    met_twice_none c.args.schedule.now _ _ _ _ _ c.requires.rounds c.into_iter-round-iterator.ensures.into_iter_gives
    c.empty-once.ensures.members c.empty-twice.ensures.members

pub game_at-opponent-requires-clause-round : goal.game_at-opponent-requires-clause-round
game_at-opponent-requires-clause-round c = lowest_below _ _ _ _ c.loop-round.invariant.some.below c.in-Some.ensures.steps

pub loop-round-preserved-then-has : goal.loop-round-preserved-then-has
loop-round-preserved-then-has c =
    met_again c.args.schedule.now c.requires.round_robin c.args.team _ _ _ _ _ _ _ c.requires.team
    (lowest_below _ _ _ _ c.loop-round.invariant.some.below c.in-Some.ensures.steps) c.loop-round.invariant c.in-Some.ensures.steps
    (sym (ap (λ (game : Cell). has c.loop-round.once game.opponent) c.game_at-opponent.ensures.value) ∙ sym c.has.ensures ∙ c.if-has.true)
    (λ t. c.with-twice.ensures.members t ∙
    ap (λ (game : Cell). t == game.opponent || has c.loop-round.twice t) c.game_at-opponent.ensures.value)

pub loop-round-preserved : goal.loop-round-preserved
loop-round-preserved c =
    met_first c.args.schedule.now c.requires.round_robin c.args.team _ _ _ _ _ _ _ c.requires.team
    (lowest_below _ _ _ _ c.loop-round.invariant.some.below c.in-Some.ensures.steps) c.loop-round.invariant c.in-Some.ensures.steps
    (sym (ap (λ (game : Cell). has c.loop-round.once game.opponent) c.game_at-opponent.ensures.value) ∙ sym c.has.ensures ∙ c.if-has.false)
    (λ t. c.with-once.ensures.members t ∙
    ap (λ (game : Cell). t == game.opponent || has c.loop-round.once t) c.game_at-opponent.ensures.value)
