use Rattle.std.proofs.Common.{rules}
use Rattle.tours.proofs.unphased_pairs.unphased_part.Goals as goal

pub returns-clause-value : goal.returns-clause-value
returns-clause-value c = search rules

pub returns-clause-limit : goal.returns-clause-limit
returns-clause-limit c = search rules
