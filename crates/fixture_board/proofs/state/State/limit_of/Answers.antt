use Rattle.std.proofs.Common.{rules}
use Rattle.fixture_board.proofs.state.State.limit_of.Goals as goal

pub returns-in-Some-clause-above : goal.returns-in-Some-clause-above
returns-in-Some-clause-above c = search rules

pub returns-in-Some-clause-limit : goal.returns-in-Some-clause-limit
returns-in-Some-clause-limit c = search rules
