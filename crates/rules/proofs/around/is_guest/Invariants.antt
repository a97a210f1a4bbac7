use Rattle.rules.proofs.unaltered.AroundOwn.{MeetsNone}
use Rattle.rules.proofs.around.is_guest.Given as goal

abbrev pub invariant-loop-round : goal.invariant-loop-round
invariant-loop-round l = MeetsNone l.schedule l.main l.fn.rounds l.team l.round-iterator
