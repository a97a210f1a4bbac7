use Rattle.board_tests.proofs.tests.threads.+crew+fn-crew-join+arg2+fn-crew-join+arg3.Given as goal

abbrev pub decreases-crew : goal.decreases-crew
decreases-crew g l = l.threads

abbrev pub decreases-join+arg2 : goal.decreases-join+arg2
decreases-join+arg2 g l = l.half

abbrev pub decreases-join+arg3 : goal.decreases-join+arg3
decreases-join+arg3 g l = l.rest
