use Rattle.std.proofs.Common.{arith}
use Rattle.std.proofs.lemmas.Grind.{common_steps}
use Rattle.league.specs.Sets.{has}
use Rattle.league.specs.declared.rule.Pairing.{Pairing}
use Rattle.fixtures.specs.Games.{round_of}
use Rattle.rules.proofs.counted.GameCounts.{count_by_more}
use Rattle.rules.proofs.classes.ga1.listed_games_in.Goals as goal

pub loop-i-preserved : goal.loop-i-preserved
loop-i-preserved c =
    let more = count_by_more (λ (game : Pairing). has c.args.slots (round_of c.args.schedule.now game.home game.away))
    c.args.games.now c.loop-i.i c.at-game.result c.at-game.ensures in
    grind (arith, common_steps, more)
