use Rattle.improvement.proofs.Solutions.{solutions_are_feasible}
use Rattle.improvement.proofs.laws.solutions_are_feasible.Goals as goal

pub returns : goal.returns
returns c = solutions_are_feasible
