use Rattle.rules.proofs.rows.MetPairs.{HasMetTwice}
use Rattle.rules.proofs.around.met_twice_in.Given as goal

abbrev pub invariant-loop-round : goal.invariant-loop-round
invariant-loop-round l = HasMetTwice l.schedule l.team l.fn.rounds l.round-iterator l.once l.twice
