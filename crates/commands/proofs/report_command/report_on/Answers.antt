use Rattle.commands.proofs.report_command.report_on.Goals as goal

pub returns : goal.returns
returns g c = c.report_in.ensures _ c.in_ok-begun.ensures.ok
