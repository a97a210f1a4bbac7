-- A leg under way, and what it comes to.
use Rattle.std.specs.Prelude.{◌≡◌, ℕ, ◌-◌, ◌*◌, ◌/◌, ◌<◌, ◌≤◌, min}
use Rattle.fixture_board.specs.History.{best_of, cost_at, IsLegal}
use Rattle.fixture_board.specs.Record.{Book}
use Rattle.fixture_board.specs.Replies.{greatest}
use Rattle.policy.specs.declared.legs.Course.{Course}
use Rattle.policy.specs.declared.legs.Course.TheVariants.{Cools, Heats}
use Rattle.policy.specs.declared.legs.Leg.{Leg}
use Rattle.policy.specs.declared.legs.WeightCourse.{WeightCourse}
use Rattle.policy.specs.Legs.{kinds_of}
use Rattle.draws.specs.declared.gates.Progress.{Progress}
use Rattle.annealing.specs.declared.blocks.StepTally.{StepTally}
use Rattle.annealing.specs.declared.boards.Boards.{Boards}
use Rattle.annealing.specs.declared.chain.Annealed.{Annealed}
use Rattle.annealing.specs.declared.legs.Going.{Going}
use Rattle.annealing.specs.within.Boards.{better, least_of_both, AreUnderWay}
use Rattle.annealing.specs.Heats.{hottest_of}
use Rattle.annealing.specs.Legs.{total_in}

-- a leg that was begun on this board and has taken so many blocks
pub record IsGoing (leg : Leg) (old : Book) (blocks : ℕ) (going : Going) : Type 0 where
  pub boards : AreUnderWay (kinds_of leg.moves) going.accepted old going.boards
  pub steps : going.steps ≡ min (1000 * blocks) leg.steps
  pub accepted : going.accepted ≤ going.steps

-- what is reported after a block: its steps, and the least total on the board
abbrev pub progress_of : Going → StepTally → Progress
progress_of going tally =
    let board = going.boards.board in record { steps = tally.steps; least = total_in (best_of board.league board.history) }

-- the weight is within its limits
pub record IsWithin (weights : WeightCourse) (weight : ℕ) : Type 0 where
  pub least : weights.least ≤ weight
  pub most : weight ≤ weights.most

-- the leg heats, and a version is feasible
abbrev pub HasHeated : Course → Boards → Type 0
HasHeated (Cools from to) boards = ⊥
HasHeated (Heats from to) boards = least_of_both boards.parked boards.board < greatest

-- the better board of the leg, and its figures
pub record IsEndOf (leg : Leg) (going : Going) (now : Annealed) : Type 0 where
  pub board : now.chain.board ≡ better going.boards.parked going.boards.board
  pub legal : IsLegal now.chain.board.league now.chain.board.room now.chain.board.history
  pub weight : now.chain.weight ≡ going.weight
  pub steps : now.end.steps ≡ going.steps
  pub accepted : now.end.accepted ≡ going.accepted
  pub hottest : now.end.hottest ≡ hottest_of leg ((going.steps - 1) / 1000)
  pub hard : now.end.hard ≡ (cost_at now.chain.board.league now.chain.board.history).hard
  pub best : now.end.best ≡ total_in (best_of now.chain.board.league now.chain.board.history)
