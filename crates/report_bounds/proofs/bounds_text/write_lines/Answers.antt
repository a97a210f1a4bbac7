use Rattle.std.proofs.Common.{codes}
use Rattle.byte_streams.proofs.Pieces.{Adds-writes, Stops-more, Stops-writes}
use Rattle.text_lines.specs.Lines.{numbered}
use Rattle.report_bounds.specs.BoundsText.{bounds_text}
use Rattle.report_bounds.proofs.bounds_text.write_lines.Goals as goal

pub returns-in_err-write_tours : goal.returns-in_err-write_tours
unfolding bounds_text
returns-in_err-write_tours g c =
    Stops-writes c.from_residual.ensures.0
    (Stops-more (numbered (codes "bound ") c.args.travel) c.in_err-write_tours.ensures.err)

pub returns : goal.returns
unfolding bounds_text
returns g c = Adds-writes c.in_ok-write_tours.ensures.ok c.write_numbered.ensures
