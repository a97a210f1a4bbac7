use Rattle.benchmarks.proofs.turns.+fn-take_turns-join+arg2+fn-take_turns-join+arg3+take_turns.Given as goal

abbrev pub decreases-take_turns : goal.decreases-take_turns
decreases-take_turns g l = l.work.threads

abbrev pub decreases-join+arg2 : goal.decreases-join+arg2
decreases-join+arg2 g l = l.half.threads

abbrev pub decreases-join+arg3 : goal.decreases-join+arg3
decreases-join+arg3 g l = l.rest.threads
