use Rattle.rules.proofs.unaltered.AroundOwn.{HasGuests}
use Rattle.rules.proofs.around.around_own.Given as goal

abbrev pub invariant-loop-team : goal.invariant-loop-team
invariant-loop-team l = HasGuests l.schedule l.main l.rounds l.fn.teams l.team-iterator l.around
