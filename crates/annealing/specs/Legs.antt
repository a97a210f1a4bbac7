-- What a leg makes of its chain.
use Rattle.std.specs.Prelude.{◌≡◌, ℕ, ◌-◌, ◌/◌, ◌≤◌, List, ◌++◌, length, take, All, Contains, Option, Some, None}
use Rattle.moves.specs.declared.moves.MoveKind.{MoveKind}
use Rattle.moves.specs.Moves.{kind_of}
use Rattle.fixture_board.specs.declared.change.Change.{Change}
use Rattle.fixture_board.specs.declared.change.Change.TheVariants.{Shift}
use Rattle.fixture_board.specs.declared.change.Entry.{Entry}
use Rattle.fixture_board.specs.declared.best.Best.{Best}
use Rattle.fixture_board.specs.History.{IsLegal, best_of, cost_at}
use Rattle.fixture_board.specs.Laws.{least_of}
use Rattle.fixture_board.specs.Record.{Book}
use Rattle.policy.specs.declared.legs.Course.{Course}
use Rattle.policy.specs.declared.legs.Course.TheVariants.{Cools, Heats}
use Rattle.policy.specs.declared.legs.Leg.{Leg}
use Rattle.policy.specs.declared.legs.LegEnd.{LegEnd}
use Rattle.policy.specs.declared.legs.WeightCourse.{WeightCourse}
use Rattle.policy.specs.Legs.{kinds_of}
use Rattle.annealing.specs.declared.chain.Annealed.{Annealed}
use Rattle.annealing.specs.declared.chain.Chain.{Chain}
use Rattle.annealing.specs.Heats.{hottest_of}

-- an entry of caller 0
abbrev pub IsOwn : Entry → Type 0
IsOwn e = e.caller ≡ 0

-- the change is a move of one of these kinds
abbrev pub IsMoveAmong : List MoveKind → Change → Type 0
IsMoveAmong among (Shift mv) = Contains among (kind_of mv)
IsMoveAmong among _ = ⊥

-- an entry that a leg with these kinds of moves may add
pub record IsAdded (among : List MoveKind) (e : Entry) : Type 0 where
  pub own : IsOwn e
  pub move : IsMoveAmong among e.change

-- the second history begins as the first does, perhaps up to an earlier version, and goes on with moves of these kinds, so many at most
pub record GoesOn (among : List MoveKind) (most : ℕ) (old new : List Entry) : Type 0 where
  pub kept : ℕ
  pub added : List Entry
  pub is : new ≡ take kept old ++ added
  pub are : All (IsAdded among) added
  pub few : length added ≤ most

-- the second board is of the same league and room, and its history goes on as the first one's
pub record IsFrom (among : List MoveKind) (most : ℕ) (old new : Book) : Type 0 where
  pub league : new.league ≡ old.league
  pub room : new.room ≡ old.room
  pub goes_on : GoesOn among most old.history new.history

-- the least total of a feasible version, if there is one
abbrev pub total_in : Option Best → Option ℕ
total_in None = None
total_in (Some best) = Some best.total

-- A leg that cools takes all of its steps. One that heats may end with fewer once its chain has a feasible version
abbrev pub MayEnd : Course → ℕ → LegEnd → Type 0
MayEnd (Cools from to) steps ended = ended.steps ≡ steps
MayEnd (Heats from to) steps ended = ended.best ≡ None → ended.steps ≡ steps

-- the figures of a leg that ended with this board
pub record AreFigures (leg : Leg) (board : Book) (ended : LegEnd) : Type 0 where
  pub some : 1 ≤ ended.steps
  pub few : ended.steps ≤ leg.steps
  pub may_end : MayEnd leg.course leg.steps ended
  pub accepted : ended.accepted ≤ ended.steps
  pub hottest : ended.hottest ≡ hottest_of leg ((ended.steps - 1) / 1000)
  pub hard : ended.hard ≡ (cost_at board.league board.history).hard
  pub best : ended.best ≡ total_in (best_of board.league board.history)

-- the chain after a leg and its figures
pub record IsAnnealed (weights : WeightCourse) (leg : Leg) (old : Chain) (now : Annealed) : Type 0 where
  pub board : IsFrom (kinds_of leg.moves) now.end.accepted old.board now.chain.board
  pub legal : IsLegal now.chain.board.league now.chain.board.room now.chain.board.history
  pub never_worse : least_of old.board.league now.chain.board.history ≤ least_of old.board.league old.board.history
  pub figures : AreFigures leg now.chain.board now.end
  pub weight_least : weights.least ≤ now.chain.weight
  pub weight_limit : now.chain.weight ≤ weights.most
