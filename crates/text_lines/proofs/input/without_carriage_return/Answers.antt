use Rattle.std.proofs.Common.{arith, rules}
use Rattle.std.proofs.lemmas.Grind.{common_steps}
use Rattle.text_lines.proofs.input.without_carriage_return.Goals as goal

pub returns-in-13 : goal.returns-in-13
returns-in-13 c = search rules

pub returns-in_default : goal.returns-in_default
returns-in_default c = grind (arith, common_steps)

pub returns-in_default-2 : goal.returns-in_default-2
returns-in_default-2 c = search rules
