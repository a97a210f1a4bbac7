use Rattle.commands.proofs.Endings.{too_large}
use Rattle.commands.proofs.begun.board_of.Goals as goal

pub returns-in-Err-clause-fault : goal.returns-in-Err-clause-fault
returns-in-Err-clause-fault c =
    rw c.from.ensures (too_large c.args.room c.in-Err.refused.why (c.in-Err.ensures).range)
