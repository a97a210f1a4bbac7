use Rattle.std.proofs.Common.{◌∙◌, ap}
use Rattle.fixtures.specs.Games.{Games}
use Rattle.fixture_board.proofs.Keeps.{prefix_of-best}
use Rattle.fixture_board.proofs.Scored.{games_of-teams}
use Rattle.fixture_board.proofs.board.Board.best_schedule.Goals as goal

pub returns-in-Some-clause-some : goal.returns-in-Some-clause-some
returns-in-Some-clause-some c =
    let leader = rw c.in-Some.is at c.self.invariant.1.leader in
    rw (← c.self.view_is) (prefix_of-best _ _ _ _ leader)

pub returns-in-Some-clause-size : goal.returns-in-Some-clause-size
returns-in-Some-clause-size c =
    let leader = rw c.in-Some.is at c.self.invariant.1.leader in
    let found = prefix_of-best _ _ _ _ leader in
    rw (← c.self.view_is) (ap (λ (g : Games). g.teams) found.2 ∙ games_of-teams c.self.inside.league found.0)
