use Rattle.std.proofs.Common.{rules}
use Rattle.byte_streams.proofs.standard.step_of.Goals as goal

pub returns-in-Ok : goal.returns-in-Ok
returns-in-Ok c = search rules

pub returns-in-Interrupted : goal.returns-in-Interrupted
returns-in-Interrupted c = search rules

pub returns-in_default : goal.returns-in_default
returns-in_default c = search rules
