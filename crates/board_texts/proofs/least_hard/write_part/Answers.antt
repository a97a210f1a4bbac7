use Rattle.std.proofs.Common.{◌≡◌, ◌==◌, false, arith, decimal}
use Rattle.std.proofs.lemmas.Bool.Decides.{nat_tests}
use Rattle.byte_streams.proofs.Pieces.{Adds-stops, Adds-then, Adds-writes, Stops-more, Stops-writes}
use Rattle.text_lines.specs.Pieces.{text_of_pieces}
use Rattle.board_texts.proofs.least_hard.write_part.Goals as goal

pub returns-in_err-write : goal.returns-in_err-write
returns-in_err-write g c =
    let some : (c.args.count == 0) ≡ false = grind (arith, nat_tests) in
    rw (some, ← c.lead_text.ensures) (Stops-writes c.from_residual.ensures.0
    (Stops-more (decimal c.args.count) (Stops-more (text_of_pieces c.args.name.now) c.in_err-write.ensures.writes.err)))

pub returns-in_err-write_pieces : goal.returns-in_err-write_pieces
returns-in_err-write_pieces g c =
    let some : (c.args.count == 0) ≡ false = grind (arith, nat_tests) in
    rw (some, ← c.lead_text.ensures) (Stops-writes c.from_residual-in_err-write_pieces.ensures.0
    (Stops-more (decimal c.args.count) (Adds-stops c.in_ok-write.ensures.writes.ok c.in_err-write_pieces.ensures.err)))

pub returns : goal.returns
returns g c =
    let some : (c.args.count == 0) ≡ false = grind (arith, nat_tests) in
    rw (some, ← c.lead_text.ensures)
    (Adds-writes (Adds-then c.in_ok-write.ensures.writes.ok c.in_ok-write_pieces.ensures.ok) c.write_number.ensures.writes)
