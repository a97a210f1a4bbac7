use Rattle.std.proofs.Common.{rules}
use Rattle.options.proofs.improve_args.improve_with.Goals as goal

pub returns-clause-job : goal.returns-clause-job
returns-clause-job c = search rules

pub returns-clause-in_range : goal.returns-clause-in_range
returns-clause-in_range c = search rules
