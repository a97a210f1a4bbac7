use Rattle.std.proofs.Common.{arith}
use Rattle.byte_streams.proofs.Pieces.{Adds-delivers}
use Rattle.report_bounds.proofs.bounds_text.write_bounds.Goals as goal

pub returns-clause-prefix : goal.returns-clause-prefix
returns-clause-prefix g c =
    grind (
      arith,
      (Adds-delivers c.new-out.ensures (rw c.deref.ensures.value at c.in_ok-write_lines.ensures.ok)
          c.flush.ensures.writes c.flush.ensures.waiting).prefix,
    )
