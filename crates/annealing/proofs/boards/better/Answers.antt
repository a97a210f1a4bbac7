use Rattle.std.proofs.Common.{arith}
use Rattle.annealing.proofs.boards.better.Goals as goal

pub returns-then-least_in : goal.returns-then-least_in
returns-then-least_in c =
    rw (c.in-Some.is, ← c.least_in.ensures, ← c.least_in-in-Some.ensures) (grind (arith, c.if-least_in.true))

pub returns-else-least_in : goal.returns-else-least_in
returns-else-least_in c =
    rw (c.in-Some.is, ← c.least_in.ensures, ← c.least_in-in-Some.ensures) (grind (arith, c.if-least_in.false))
