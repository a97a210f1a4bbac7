use Rattle.std.proofs.Common.{rules}
use Rattle.fixture_board.proofs.state.State.step.Goals as goal

pub returns-in-Pin-clause-step : goal.returns-in-Pin-clause-step
returns-in-Pin-clause-step c = search rules
