-- Legs that wait, legs that run, and the line of both.
use Rattle.std.specs.Prelude.{◌≡◌, ℕ, ◌+◌, List, [], ◌++◌, map, sum_by, All, Option, Some, None, unwrap_or, IfOk}
use Rattle.fixture_board.specs.Record.{Book, book}
use Rattle.fixture_board.specs.Rewound.{rewound}
use Rattle.policy.specs.declared.legs.Leg.{Leg}
use Rattle.policy.specs.declared.legs.WeightCourse.{WeightCourse}
use Rattle.policy.specs.Legs.{IsLeg}
use Rattle.annealing.specs.declared.chain.Annealed.{Annealed}
use Rattle.annealing.specs.declared.chain.Chain.{Chain}
use Rattle.annealing.specs.Legs.{IsAnnealed}
use Rattle.improvement.specs.declared.field.Entrant.{Entrant}
use Rattle.improvement.specs.declared.legs.LegState.{LegState}
use Rattle.improvement.specs.declared.legs.LegState.TheVariants.{InThread, Over}
use Rattle.improvement.specs.declared.legs.RunningLeg.{RunningLeg}
use Rattle.improvement.specs.declared.legs.Assignment.{Assignment}
use Rattle.improvement.specs.declared.legs.WaitingLeg.{WaitingLeg}
use Rattle.improvement.specs.declared.line.LegQueue.{LegQueue}
use Rattle.improvement.specs.declared.series.Series.{Series}
use Rattle.improvement.specs.declared.stage.LegBeginning.{LegBeginning}
use Rattle.improvement.specs.within.Fields.{StageData}
use Rattle.improvement.specs.Legs.{CanBegin, LegRun}

-- a board of the start's league and room
pub record IsAlike (start board : Book) : Type 0 where
  pub league_is : board.league ≡ start.league
  pub room_is : board.room ≡ start.room

-- one without an entry
abbrev pub anew : Book → Book
anew start = book start.league start.room []

-- a board with which a leg of the chain may begin after these legs
pub record IsAtBeginning (start : Book) (legs : List LegRun) (chain : ℕ) (board : Book) : Type 0 where
  pub alike : IsAlike start board
  pub begins : CanBegin start.league legs chain board.history

-- a chain that may go on, once it is taken back to its best version
pub record IsEntrant (start : Book) (legs : List LegRun) (e : Entrant) : Type 0 where
  pub alike : IsAlike start e.chain.board
  pub begins : CanBegin start.league legs e.number (rewound start.league e.chain.board.history)

-- the chains of a wave may go on
pub record IsStage (start : Book) (legs : List LegRun) (s : StageData) : Type 0 where
  pub before : All (IsEntrant start legs) s.before
  pub field : All (IsEntrant start legs) s.field

-- a chain's board, if there is one, is one with which a leg may begin
abbrev pub MayBegin : Book → List LegRun → ℕ → Option Book → Type 0
MayBegin start legs chain None = Unit {0}
MayBegin start legs chain (Some board) = IsAtBeginning start legs chain board

pub record IsWaiting (start : Book) (legs : List LegRun) (w : WaitingLeg) : Type 0 where
  pub leg : IsLeg w.assignment.leg
  pub begins : MayBegin start legs w.assignment.chain w.board

-- the chain with which a leg that waits begins: a new one if it has no board
abbrev pub chain_of : Book → WaitingLeg → Chain
chain_of start w = record { board = unwrap_or w.board (anew start); weight = w.weight }

-- the leg began so, and ends with this chain
pub record CanEnd (start : Book) (legs : List LegRun) (assignment : Assignment) (now : Annealed) : Type 0 where
  pub weights : WeightCourse
  pub old : Chain
  pub begins : IsAtBeginning start legs assignment.chain old.board
  pub annealed : IsAnnealed weights assignment.leg old now

-- if memory doesn't run out, the leg ends so
abbrev pub IsState : (Annealed → Type 0) → LegState → Type 0
IsState P (InThread handle) =
    (now : Annealed) → IsAnnealed handle.promise.weights handle.promise.leg handle.promise.chain.value now → P now
IsState P (Over outcome) = IfOk outcome P

abbrev pub IsRunning : Book → List LegRun → RunningLeg → Type 0
IsRunning start legs r = IsState (CanEnd start legs r.assignment) r.state

abbrev pub assignment_of_running : RunningLeg → Assignment
assignment_of_running r = r.assignment

abbrev pub assignment_of_waiting : WaitingLeg → Assignment
assignment_of_waiting w = w.assignment

-- the legs in line, in their order
abbrev pub assignments_of : LegQueue → List Assignment
assignments_of line = map assignment_of_running line.running.items ++ map assignment_of_waiting line.waiting.items

abbrev pub assigned_steps : Assignment → ℕ
assigned_steps assignment = assignment.leg.steps

abbrev pub running_steps : RunningLeg → ℕ
running_steps r = assigned_steps r.assignment

-- the steps that no leg of these improvements has got
abbrev pub steps_left : Series → ℕ
steps_left s = s.policy.left + s.later

-- the steps that no leg has taken yet: those of the legs in line, and those that no leg has got
abbrev pub left_in : LegQueue → ℕ
left_in line = steps_left line.series + sum_by assigned_steps (assignments_of line)

-- what is in line and what comes after it may go on after these legs
pub record IsLine (start : Book) (legs : List LegRun) (line : LegQueue) : Type 0 where
  pub stage : IsStage start legs line.stage
  pub running : All (IsRunning start legs) line.running.items
  pub waiting : All (IsWaiting start legs) line.waiting.items

-- a leg that waits, with this number as its stream
abbrev pub waiting_for : ℕ → ℕ → Leg → LegBeginning → WaitingLeg
waiting_for stream bout leg b =
    record { assignment = record { chain = b.chain; bout = bout; leg = leg }; stream = stream; weight = b.weight; board = b.board }
