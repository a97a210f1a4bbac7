use Rattle.byte_streams.proofs.Pieces.{Adds-writes, Stops-more, Stops-writes}
use Rattle.report_text.specs.within.CostText.{moved_text}
use Rattle.report_text.proofs.leaving.write_leaving.Goals as goal

pub returns-in_err-write_near : goal.returns-in_err-write_near
returns-in_err-write_near g c =
    Stops-writes c.from_residual.ensures.0
    (Stops-more (moved_text c.args.league.now c.args.schedule.now) c.in_err-write_near.ensures.err)

pub returns : goal.returns
returns g c = Adds-writes c.in_ok-write_near.ensures.ok c.write_moved.ensures
