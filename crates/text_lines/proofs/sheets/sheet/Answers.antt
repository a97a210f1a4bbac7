use Rattle.std.proofs.Common.{arith}
use Rattle.byte_streams.proofs.Pieces.{Adds-delivers, Stops-delivers}
use Rattle.text_lines.proofs.sheets.sheet.Goals as goal

pub returns-in_err-write_sheet-clause-prefix : goal.returns-in_err-write_sheet-clause-prefix
returns-in_err-write_sheet-clause-prefix g c =
    grind (arith, (Stops-delivers c.new-out.ensures c.from_residual.ensures.0 c.in_err-write_sheet.ensures.err).prefix)

pub returns-clause-prefix : goal.returns-clause-prefix
returns-clause-prefix g c =
    grind (arith, (Adds-delivers c.new-out.ensures c.in_ok-write_sheet.ensures.ok c.flush.ensures.writes c.flush.ensures.waiting).prefix)
