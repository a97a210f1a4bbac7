use Rattle.std.proofs.Common.{append-nil}
use Rattle.byte_streams.proofs.Pieces.{Adds-writes}
use Rattle.improvement.proofs.leg_text.write_leg.Goals as goal

pub returns-clause-writes : goal.returns-clause-writes
returns-clause-writes g c = rw append-nil at (Adds-writes c.in_ok-write_solution.ensures.ok c.flush.ensures.writes)
