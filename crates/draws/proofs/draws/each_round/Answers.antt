use Rattle.std.proofs.Common.{subst, sym, arith, rules}
use Rattle.draws.specs.Draws.{AreRoundsOf}
use Rattle.draws.proofs.EachRound.{first_rounds, AreRoundsOf-each}
use Rattle.draws.proofs.draws.each_round.Goals as goal

pub returns-clause-value : goal.returns-clause-value
returns-clause-value c = first_rounds c.args.teams c.from.result (search rules) (omega arith)

pub returns-clause-are : goal.returns-clause-are
returns-clause-are c =
    subst (AreRoundsOf c.args.teams) (sym (first_rounds c.args.teams c.from.result (search rules) (omega arith)))
    (AreRoundsOf-each c.args.teams (omega arith) (omega arith))
