use Rattle.byte_streams.proofs.Pieces.{Adds-writes, Stops-more, Stops-writes}
use Rattle.report_breaches.specs.BreachText.{breaches_text}
use Rattle.report_text.proofs.cost_text.write_rule.Goals as goal

pub returns-in_err-write_rule_line : goal.returns-in_err-write_rule_line
returns-in_err-write_rule_line g c =
    Stops-writes c.from_residual.ensures.0
    (Stops-more (breaches_text c.args.schedule.now c.args.i c.args.rule.now.body) c.in_err-write_rule_line.ensures.err)

pub returns : goal.returns
returns g c = Adds-writes c.in_ok-write_rule_line.ensures.ok c.write_breaches.ensures
