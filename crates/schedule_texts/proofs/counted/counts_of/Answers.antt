use Rattle.std.proofs.Common.{arith, sym, ◌∙◌}
use Rattle.std.proofs.lemmas.List.{take_all}
use Rattle.league.specs.Limits.{max_rounds}
use Rattle.schedule_texts.specs.within.Faults.{number_of, takes}
use Rattle.schedule_texts.proofs.Tallies.{tallies_more, tallies_none, tallies_same, tally_small}
use Rattle.schedule_texts.proofs.Tests.{count_is, number_below}
use Rattle.schedule_texts.proofs.counted.counts_of.Goals as goal
use Rattle.schedule_texts.proofs.counted.counts_of.Goals.{then-takes, else-takes}

pub loop-game-init : goal.loop-game-init
loop-game-init c = tallies_none (takes c.args.counted c.args.teams c.args.team) (number_of c.args.counted) max_rounds

pub overflow_add-counts : goal.overflow_add-counts
overflow_add-counts c =
    let below = number_below c.args.counted c.args.teams c.args.team _ c.requires (sym c.takes.ensures ∙ c.if-takes.true) in
    let small = tally_small (takes c.args.counted c.args.teams c.args.team) (number_of c.args.counted) c.args.games.now max_rounds
    c.loop-game.game-index c.loop-game.counts c.from.result (rw (c.from.ensures, c.number_of.ensures) below) c.loop-game.invariant in
    omega (arith, small)

pub loop-game-preserved : goal.loop-game-preserved
loop-game-preserved c =
    elim c.if-takes.branch [
      | then-takes w ↦
          let passes = sym c.takes.ensures ∙ w.if-takes.true in
          let below = number_below c.args.counted c.args.teams c.args.team _ c.requires passes in
          let number_is = w.from.ensures ∙ w.number_of.ensures in
          rw w.counts-is
          (tallies_more (takes c.args.counted c.args.teams c.args.team) (number_of c.args.counted) c.args.games.now max_rounds
          c.loop-game.game-index _ c.loop-game.counts c.loop-game-test.true c.loop-game.invariant w.from.result passes number_is
          (rw number_is below))
      | else-takes w ↦
          rw w.counts-is
          (tallies_same (takes c.args.counted c.args.teams c.args.team) (number_of c.args.counted) c.args.games.now max_rounds
          c.loop-game.game-index _ c.loop-game.counts c.loop-game-test.true c.loop-game.invariant (sym c.takes.ensures ∙ w.if-takes.false))
    ]

pub returns : goal.returns
returns c number below =
    rw (take_all c.loop-game.game-index c.args.games.now c.loop-game-test.false) at (c.loop-game.invariant.each number below)
    ∙ count_is c.args.counted c.args.teams c.args.games.now c.args.team number
