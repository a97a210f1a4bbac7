use Rattle.std.proofs.Common.{◌≡◌, ◌||◌, eqb, false, arith}
use Rattle.std.proofs.lemmas.Bool.Decides.{nat_tests}
use Rattle.byte_streams.proofs.Pieces.{Adds-writes, Stops-more, Stops-writes}
use Rattle.schedule_texts.specs.Faults.{times_words}
use Rattle.schedule_texts.proofs.faults.write_pair.Goals as goal

pub returns-in_err-write_pieces : goal.returns-in_err-write_pieces
returns-in_err-write_pieces g c =
    let fault : (eqb c.args.home c.args.away || eqb c.args.count 1) ≡ false = grind (arith, nat_tests) in
    rw fault (Stops-writes c.from_residual.ensures.0 (Stops-more (times_words c.args.count) c.in_err-write_pieces.ensures.err))

pub returns : goal.returns
returns g c =
    let fault : (eqb c.args.home c.args.away || eqb c.args.count 1) ≡ false = grind (arith, nat_tests) in
    rw fault (Adds-writes c.in_ok-write_pieces.ensures.ok c.write_times.ensures)
