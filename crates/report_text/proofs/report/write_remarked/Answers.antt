use Rattle.byte_streams.proofs.Pieces.{Adds-writes, Stops-more, Stops-writes}
use Rattle.report_text.proofs.report.write_remarked.Goals as goal

pub returns-in_err-write_judged : goal.returns-in_err-write_judged
returns-in_err-write_judged g c =
    Stops-writes c.from_residual.ensures.0 (Stops-more c.args.remarks.now c.in_err-write_judged.ensures.err)

pub returns : goal.returns
returns g c = Adds-writes c.in_ok-write_judged.ensures.ok c.write.ensures.writes
