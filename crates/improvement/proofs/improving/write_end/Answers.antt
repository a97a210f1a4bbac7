use Rattle.std.proofs.Common.{append-nil}
use Rattle.byte_streams.proofs.Pieces.{Adds-stops, Adds-then, Adds-writes, Stops-more, Stops-writes}
use Rattle.board_texts.specs.SearchText.{improved_text}
use Rattle.improvement.proofs.improving.write_end.Goals as goal

pub returns-in_err-write_broken-clause-writes : goal.returns-in_err-write_broken-clause-writes
returns-in_err-write_broken-clause-writes g c =
    let lead = c.args.reported.now.lead in
    Stops-writes c.from_residual.ensures.0
    (Stops-more (improved_text c.args.history lead.league lead.history) c.in_err-write_broken.ensures.err)

pub returns-in_err-write_improved-clause-writes : goal.returns-in_err-write_improved-clause-writes
returns-in_err-write_improved-clause-writes g c =
    Stops-writes c.from_residual-in_err-write_improved.ensures.0
    (Adds-stops c.in_ok-write_broken.ensures.ok c.in_err-write_improved.ensures.err)

pub returns-clause-writes : goal.returns-clause-writes
returns-clause-writes g c =
    rw append-nil at
    (Adds-writes (Adds-then c.in_ok-write_broken.ensures.ok c.in_ok-write_improved.ensures.ok) c.flush.ensures.writes)
