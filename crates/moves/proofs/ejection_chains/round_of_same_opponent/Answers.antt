use Rattle.std.proofs.Common.{rules}
use Rattle.moves.proofs.ejection_chains.round_of_same_opponent.Goals as goal

pub returns-then-cell-clause-value : goal.returns-then-cell-clause-value
returns-then-cell-clause-value c = search rules

pub returns-then-cell-clause-round_robin : goal.returns-then-cell-clause-round_robin
returns-then-cell-clause-round_robin c = search rules

pub returns-else-cell-clause-value : goal.returns-else-cell-clause-value
returns-else-cell-clause-value c = search rules

pub returns-else-cell-clause-round_robin : goal.returns-else-cell-clause-round_robin
returns-else-cell-clause-round_robin c = search rules
