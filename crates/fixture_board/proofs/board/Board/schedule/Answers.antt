use Rattle.std.proofs.Common.{rules}
use Rattle.fixture_board.proofs.Keeps.{IsSound-kept}
use Rattle.fixture_board.proofs.board.Board.schedule.Goals as goal

pub returns-clause-pinned_stand : goal.returns-clause-pinned_stand
returns-clause-pinned_stand c = rw (← c.self.view_is) ((IsSound-kept c.self.invariant.1).1)

pub returns-clause-games : goal.returns-clause-games
returns-clause-games c = search rules

pub returns-clause-size : goal.returns-clause-size
returns-clause-size c = search rules
