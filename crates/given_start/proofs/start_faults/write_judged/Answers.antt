use Rattle.std.proofs.Common.{arith}
use Rattle.byte_streams.proofs.Pieces.{Adds-delivers}
use Rattle.text_lines.proofs.ForCallers.{prefix_at}
use Rattle.given_start.proofs.start_faults.write_judged.Goals as goal

pub returns-clause-prefix : goal.returns-clause-prefix
returns-clause-prefix g c =
    prefix_at g.W.Sink.held _ _ _ _ _
    (Adds-delivers c.new-out.ensures c.in_ok-write_faults.ensures.ok c.flush.ensures.writes c.flush.ensures.waiting).prefix
    (grind arith)
