use Rattle.improvement.proofs.Solutions.{end_is_least}
use Rattle.improvement.proofs.laws.end_is_least.Goals as goal

pub returns : goal.returns
returns c = end_is_least
