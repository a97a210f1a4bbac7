use Rattle.std.proofs.Common.{rules}
use Rattle.fixture_board.proofs.state.State.duplicate.Goals as goal

pub returns-clause-kept : goal.returns-clause-kept
returns-clause-kept c = search rules
