use Rattle.std.proofs.Common.{◌≡◌, eqb, false, arith}
use Rattle.std.proofs.lemmas.Bool.Decides.{nat_tests}
use Rattle.schedule_texts.proofs.faults.write_team_round.Goals as goal

pub returns : goal.returns
returns g c =
    let one : eqb c.args.count 1 ≡ false = grind (arith, nat_tests) in
    let none : eqb c.args.count 0 ≡ false = grind (arith, nat_tests) in
    rw (one, none) c.write_pieces-2.ensures
