use Rattle.rules.proofs.rows.HomeRows.{HasFlipped}
use Rattle.rules.proofs.home_rows.flip.Given as goal

abbrev pub invariant-loop-round : goal.invariant-loop-round
invariant-loop-round l = HasFlipped l.row l.fn.homes l.round-iterator
