use Rattle.rules.proofs.rows.MetPairs.{HasMetIn}
use Rattle.rules.proofs.around.met_in.Given as goal

abbrev pub invariant-loop-round : goal.invariant-loop-round
invariant-loop-round l = HasMetIn l.schedule l.team l.fn.rounds l.round-iterator l.met
