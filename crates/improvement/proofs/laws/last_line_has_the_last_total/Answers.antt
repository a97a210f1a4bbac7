use Rattle.improvement.proofs.Blocks.{last_line_has_the_last_total}
use Rattle.improvement.proofs.laws.last_line_has_the_last_total.Goals as goal

pub returns : goal.returns
returns c = last_line_has_the_last_total
