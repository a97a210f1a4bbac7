use Rattle.rules.proofs.unaltered.AroundMain.{HasAround}
use Rattle.rules.proofs.around.around_main.Given as goal

abbrev pub invariant-loop-team : goal.invariant-loop-team
invariant-loop-team l = HasAround l.schedule l.fn.main l.rounds l.initial.team-iterator l.team-iterator l.around
