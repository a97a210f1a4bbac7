use Rattle.std.proofs.Common.{◌∙◌, ap}
use Rattle.sets.specs.Sets.{has}
use Rattle.sets.specs.Pairs.{has_pair}
use Rattle.sets.proofs.pairs.PairSet.has.Goals as goal

pub returns-clause-value : goal.returns-clause-value
unfolding has_pair
returns-clause-value c = c.has.ensures ∙ ap (λ row. has row c.args.second) c.row.ensures.value
