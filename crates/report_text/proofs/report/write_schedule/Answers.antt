use Rattle.byte_streams.proofs.Pieces.{Adds-writes, Stops-more, Stops-writes}
use Rattle.report_text.specs.CostText.{cost_text}
use Rattle.report_text.proofs.CostLines.{in_parts}
use Rattle.report_text.proofs.report.write_schedule.Goals as goal

pub returns-in_err-write_sheet : goal.returns-in_err-write_sheet
returns-in_err-write_sheet g c =
    Stops-writes c.from_residual.ensures.0
    (Stops-more (cost_text c.args.league.now c.args.schedule.now) c.in_err-write_sheet.ensures.err)

pub returns : goal.returns
returns g c = rw (in_parts c.args.league.now c.args.schedule.now) (Adds-writes c.in_ok-write_sheet.ensures.ok c.write_costs.ensures)
