use Rattle.std.proofs.Common.{rules}
use Rattle.fixture_board.specs.Laws.{least_of}
use Rattle.annealing.proofs.boards.least_in.Goals as goal

pub returns-in-None : goal.returns-in-None
unfolding least_of
returns-in-None c = search rules

pub returns-in-Some : goal.returns-in-Some
unfolding least_of
returns-in-Some c = search rules
