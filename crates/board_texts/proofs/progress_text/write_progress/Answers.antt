use Rattle.byte_streams.proofs.Pieces.{Adds-stops, Adds-then, Adds-writes, Stops-more, Stops-writes}
use Rattle.board_texts.specs.ProgressText.{least_text, left_text, steps_text, wrap_off, wrap_on}
use Rattle.board_texts.proofs.progress_text.write_progress.Goals as goal

pub returns-in_err-write_clear : goal.returns-in_err-write_clear
returns-in_err-write_clear g c =
    let a = c.args.advance in
    Stops-writes c.from_residual.ensures.0
    (Stops-more wrap_on (Stops-more (left_text a.left) (Stops-more (least_text a.least) (Stops-more (steps_text a)
    (Stops-more wrap_off c.in_err-write_clear.ensures.err)))))

pub returns-in_err-write : goal.returns-in_err-write
returns-in_err-write g c =
    let a = c.args.advance in
    Stops-writes c.from_residual-in_err-write.ensures.0
    (Stops-more wrap_on (Stops-more (left_text a.left) (Stops-more (least_text a.least) (Stops-more (steps_text a)
    (Adds-stops c.in_ok-write_clear.ensures.ok c.in_err-write.ensures.writes.err)))))

pub returns-in_err-write_steps : goal.returns-in_err-write_steps
returns-in_err-write_steps g c =
    let a = c.args.advance in
    Stops-writes c.from_residual-in_err-write_steps.ensures.0
    (Stops-more wrap_on (Stops-more (left_text a.left) (Stops-more (least_text a.least)
    (Adds-stops (Adds-then c.in_ok-write_clear.ensures.ok c.in_ok-write.ensures.writes.ok) c.in_err-write_steps.ensures.err))))

pub returns-in_err-write_least : goal.returns-in_err-write_least
returns-in_err-write_least g c =
    Stops-writes c.from_residual-in_err-write_least.ensures.0
    (Stops-more wrap_on (Stops-more (left_text c.args.advance.left)
    (Adds-stops (Adds-then (Adds-then c.in_ok-write_clear.ensures.ok c.in_ok-write.ensures.writes.ok) c.in_ok-write_steps.ensures.ok)
    c.in_err-write_least.ensures.err)))

pub returns-in_err-write_left : goal.returns-in_err-write_left
returns-in_err-write_left g c =
    Stops-writes c.from_residual-in_err-write_left.ensures.0
    (Stops-more wrap_on
    (Adds-stops (Adds-then (Adds-then (Adds-then c.in_ok-write_clear.ensures.ok c.in_ok-write.ensures.writes.ok)
    c.in_ok-write_steps.ensures.ok) c.in_ok-write_least.ensures.ok) c.in_err-write_left.ensures.err))

pub returns : goal.returns
returns g c =
    Adds-writes (Adds-then (Adds-then (Adds-then (Adds-then c.in_ok-write_clear.ensures.ok c.in_ok-write.ensures.writes.ok)
    c.in_ok-write_steps.ensures.ok) c.in_ok-write_least.ensures.ok) c.in_ok-write_left.ensures.ok) c.write-2.ensures.writes
