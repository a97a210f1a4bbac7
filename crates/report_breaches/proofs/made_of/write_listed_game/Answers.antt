use Rattle.std.proofs.Common.{◌≡◌, ◌||◌, true, arith}
use Rattle.std.proofs.lemmas.Grind.{common_steps}
use Rattle.byte_streams.proofs.Pieces.{Adds-writes, Stops-more, Stops-writes}
use Rattle.league.specs.Sets.{has}
use Rattle.fixtures.specs.Games.{round_of}
use Rattle.report_breaches.specs.BreachText.{at_round}
use Rattle.report_breaches.proofs.made_of.write_listed_game.Goals as goal

pub returns-in_err-write_pairing : goal.returns-in_err-write_pairing
returns-in_err-write_pairing g c =
    let round = round_of c.args.schedule.now c.args.game.home c.args.game.away in
    let told : (c.args.whole || has c.args.slots round) ≡ true = grind (arith, common_steps) in
    rw told (Stops-writes c.from_residual.ensures.0 (Stops-more (at_round round) c.in_err-write_pairing.ensures.err))

pub returns : goal.returns
returns g c =
    let round = round_of c.args.schedule.now c.args.game.home c.args.game.away in
    let told : (c.args.whole || has c.args.slots round) ≡ true = grind (arith, common_steps) in
    rw told (Adds-writes c.in_ok-write_pairing.ensures.ok (rw c.round_of-round.ensures.value at c.write_at.ensures))
