use Rattle.moves.proofs.ejection.MetIn.{IsMetIn}
use Rattle.moves.proofs.applying.teams_with_opponents.Given as goal

abbrev pub invariant-loop-round : goal.invariant-loop-round
invariant-loop-round l = IsMetIn l.schedule l.i l.j l.fn.rounds l.round-iterator l.found
