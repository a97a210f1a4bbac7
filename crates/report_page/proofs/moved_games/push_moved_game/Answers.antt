use Rattle.std.proofs.Common.{◌≡◌, eqb, true, false, arith, refl, append-nil}
use Rattle.std.proofs.lemmas.Bool.Decides.{nat_tests}
use Rattle.fixtures.specs.Games.{round_of}
use Rattle.league.specs.Starts.{start_round}
use Rattle.report_page.proofs.moved_games.push_moved_game.Goals as goal

pub returns-then-now-was : goal.returns-then-now-was
returns-then-now-was c =
    let game : eqb c.args.home c.args.away ≡ false = grind (arith, nat_tests) in
    let stays : eqb (round_of c.args.schedule.now c.args.home c.args.away) (start_round c.args.league.now c.args.home c.args.away) ≡ true =
    grind (arith, nat_tests) in
    rw (game, stays, append-nil) refl
