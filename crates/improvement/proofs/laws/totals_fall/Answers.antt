use Rattle.improvement.proofs.Solutions.{totals_fall}
use Rattle.improvement.proofs.laws.totals_fall.Goals as goal

pub returns : goal.returns
returns c = totals_fall
