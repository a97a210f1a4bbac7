use Rattle.rules.proofs.unaltered.Untouched.{untouched_deviation}
use Rattle.rules.proofs.laws.untouched_stays.Goals as goal

pub returns : goal.returns
returns c = untouched_deviation
