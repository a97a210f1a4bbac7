use Rattle.std.proofs.Common.{arith, rules}
use Rattle.std.proofs.lemmas.Grind.{common_steps}
use Rattle.board_texts.proofs.script_line.parse_line.Goals as goal

pub returns-in_default : goal.returns-in_default
returns-in_default c = search rules

pub returns-then-word-eq35 : goal.returns-then-word-eq35
returns-then-word-eq35 c = search rules

pub returns-then-eq : goal.returns-then-eq
returns-then-eq c = grind (arith, common_steps)

pub returns-else-eq : goal.returns-else-eq
returns-else-eq c = grind (arith, common_steps)
