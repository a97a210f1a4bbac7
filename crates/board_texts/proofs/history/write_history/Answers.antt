use Rattle.std.proofs.Common.{codes}
use Rattle.board_texts.specs.PlayText.{change_lines, history_text}
use Rattle.byte_streams.proofs.Pieces.{Adds-stops, Adds-then, Adds-writes, Stops-more, Stops-writes}
use Rattle.board_texts.proofs.history.write_history.Goals as goal

pub returns-in_err-write_numbered : goal.returns-in_err-write_numbered
unfolding history_text
returns-in_err-write_numbered g c =
    Stops-writes c.from_residual.ensures.0
    (Stops-more (codes "end\n") (Stops-more (change_lines c.args.board.now.history)
    (rw c.version.ensures.length at c.in_err-write_numbered.ensures.err)))

pub returns-in_err-write_changes : goal.returns-in_err-write_changes
unfolding history_text
returns-in_err-write_changes g c =
    Stops-writes c.from_residual-in_err-write_changes.ensures.0
    (Stops-more (codes "end\n") (Adds-stops
    (rw c.version.ensures.length at c.in_ok-write_numbered.ensures.ok) c.in_err-write_changes.ensures.err))

pub returns : goal.returns
unfolding history_text
returns g c = Adds-writes (Adds-then
    (rw c.version.ensures.length at c.in_ok-write_numbered.ensures.ok) c.in_ok-write_changes.ensures.ok) c.write.ensures.writes
