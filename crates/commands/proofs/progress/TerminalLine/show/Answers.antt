use Rattle.std.proofs.Common.{arith}
use Rattle.byte_streams.proofs.Pieces.{Adds-delivers, Stops-delivers}
use Rattle.text_lines.proofs.ForCallers.{prefix_at}
use Rattle.commands.proofs.progress.TerminalLine.show.Goals as goal

pub returns-in_err-write_progress-clause-prefix : goal.returns-in_err-write_progress-clause-prefix
returns-in_err-write_progress-clause-prefix g c =
    prefix_at g.W.Sink.held _ _ _ _ _
    (Stops-delivers c.new-out.ensures c.from_residual.ensures.0 (rw c.advance-advance.ensures at c.in_err-write_progress.ensures.err)).prefix (grind arith)

pub returns-clause-prefix : goal.returns-clause-prefix
returns-clause-prefix g c =
    prefix_at g.W.Sink.held _ _ _ _ _
    (Adds-delivers c.new-out.ensures (rw c.advance-advance.ensures at c.in_ok-write_progress.ensures.ok) c.flush.ensures.writes c.flush.ensures.waiting).prefix
    (grind arith)
