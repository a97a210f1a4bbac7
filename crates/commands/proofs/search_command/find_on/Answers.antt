use Rattle.commands.proofs.search_command.find_on.Goals as goal

pub returns : goal.returns
returns g c = c.find_in.ensures _ _ c.in_ok-begun.ensures.ok
