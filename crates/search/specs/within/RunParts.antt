-- The parts of a run, as its own functions hand them on: memory, seats, inputs and threads.
use Rattle.std.specs.Prelude.{◌≡◌, ℕ, ◌+◌, ◌<◌, ◌≤◌, [], ◌∷◌, Bool, IsTrue, map, All, Vec, vec_len, vec_capacity}
use Rattle.std.specs.declared.alloc.Global.{Global}
use Rattle.std.specs.declared.thread.PromisedHandle.{PromisedHandle}
use Rattle.league.specs.League.{LeagueData, teams}
use Rattle.fixtures.specs.Games.{Games}
use Rattle.fixture_board.specs.declared.reply.Reply.{Reply}
use Rattle.shared_board.specs.Held.{under}
use Rattle.shared_board.specs.Seats.{BoardId, SeatValue}
use Rattle.shared_board.specs.Setting.{Setting}
use Rattle.draws.specs.declared.gates.Progress.{Progress}
use Rattle.choices.specs.declared.search_plan.SearchPlan.{SearchPlan}
use Rattle.search.specs.declared.workers.Report.{Report}
use Rattle.search.specs.declared.workers.WorkerPlan.{WorkerPlan}
use Rattle.search.specs.declared.runs.buffers.RunBuffers.{RunBuffers}
use Rattle.search.specs.declared.runs.threads.WorkerInput.{WorkerInput}
use Rattle.search.specs.declared.runs.threads.Ended.{Ended}
use Rattle.search.specs.declared.runs.threads.WorkerTask.{WorkerTask}
use Rattle.search.specs.Heard.{IsOfWorker}
use Rattle.search.specs.Reports.{IsReport}

-- the copy is of so many teams
abbrev pub IsSized : ℕ → Games → Type 0
IsSized size g = g.teams ≡ size

-- a copy of so many teams for each worker, and room for its input, its thread and its report
pub record HasRoom {H : Type 0} (size workers : ℕ) (c : RunBuffers H) : Type 0 where
  pub copies : vec_len c.copies ≡ workers
  pub sized : All (IsSized size) c.copies.items
  pub no_input : c.inputs.items ≡ []
  pub inputs : workers ≤ vec_capacity c.inputs
  pub no_handle : c.handles.items ≡ []
  pub handles : workers ≤ vec_capacity c.handles
  pub no_report : c.reports.items ≡ []
  pub reports : workers ≤ vec_capacity c.reports

-- a seat that has seen nothing, holds its own number alone, and knows that it is given out
pub record IsFresh (table : BoardId) (s : SeatValue) : Type 0 where
  pub table_is : s.table ≡ table
  pub held : s.held ≡ s.number ∷ []
  pub seen : s.seen ≡ []
  pub given : s.number < s.given

abbrev pub IsWorkerInput : BoardId → WorkerInput → Type 0
IsWorkerInput table i = IsFresh table i.seat

-- the seat of the input has this setting
abbrev pub InputIn : Setting → WorkerInput → Type 0
InputIn setting i = i.seat.setting ≡ setting

-- the board of the input's seat is of this league, if it is said to be
abbrev pub IsScoringFor : Bool → LeagueData → WorkerInput → Type 0
IsScoringFor of_boards league i = IsTrue of_boards → i.seat.setting.league ≡ league

abbrev pub input_number : WorkerInput → ℕ
input_number i = i.seat.number

abbrev pub input_worker : WorkerInput → ℕ
input_worker i = i.worker

abbrev pub input_copy : WorkerInput → Games
input_copy i = i.copy

-- what the worker of this number is to do
abbrev pub plan_of : SearchPlan → ℕ → WorkerPlan
plan_of plan worker = record { worker = worker; seed = plan.seed; steps = plan.steps; slack = plan.slack }

-- what a thread was given to do
abbrev pub handle_input : {G : Type 0} → PromisedHandle Ended (WorkerTask G) → WorkerInput
handle_input h = h.promise.input.value

abbrev pub handle_number : {G : Type 0} → PromisedHandle Ended (WorkerTask G) → ℕ
handle_number h = input_number (handle_input h)

-- a thread by a fresh seat, through the gate, with the league and by the plan
pub record IsHandle {G : Type 0} (gate : G) (league : LeagueData) (plan : SearchPlan) (table : BoardId)
    (h : PromisedHandle Ended (WorkerTask G)) : Type 0 where
  pub plan_is : h.promise.plan ≡ plan
  pub fresh : IsWorkerInput table (handle_input h)
  pub league_is : h.promise.league.value ≡ league
  pub gate_is : h.promise.gate.value ≡ gate

-- inputs by fresh seats of a board of this league, if it is said to be, and room for their threads
pub record CanStart {G : Type 0} (of_boards : Bool) (league : LeagueData) (table : BoardId) (inputs : Vec WorkerInput Global)
    (handles : Vec (PromisedHandle Ended (WorkerTask G)) Global) : Type 0 where
  pub inputs_are : All (IsWorkerInput table) inputs.items
  pub scoring : All (IsScoringFor of_boards league) inputs.items
  pub no_handle : handles.items ≡ []
  pub room : vec_len inputs ≤ vec_capacity handles

-- threads for the first of the inputs, or for all of them
pub record AreStarted {G : Type 0} (gate : G) (league : LeagueData) (plan : SearchPlan) (table : BoardId) (inputs : Vec WorkerInput Global)
    (all : Bool) (handles : Vec (PromisedHandle Ended (WorkerTask G)) Global) : Type 0 where
  pub handles_are : All (IsHandle gate league plan table) handles.items
  pub few : vec_len handles ≤ vec_len inputs
  pub each : IsTrue all → map handle_input handles.items ≡ inputs.items

-- the report of the input's worker, by the plan, if its copy is of as many teams as the league
abbrev pub IsOfInput : (ℕ → ℕ → Reply → Type 0) → (ℕ → Progress → Type 0) → LeagueData → SearchPlan → WorkerInput → Report → Type 0
IsOfInput heard reported league plan input report = IsOfWorker heard reported (input.copy.teams ≡ teams league) plan.steps input.worker report

-- what comes back from a thread with the input's seat, if the gate heard these replies and this was reported to it
pub record IsBack (heard : ℕ → ℕ → Reply → Type 0) (reported : ℕ → Progress → Type 0) (league : LeagueData) (plan : SearchPlan)
    (input : WorkerInput) (report : Report) (seat : SeatValue) : Type 0 where
  pub report_is : IsReport plan.steps report
  pub heard_is : IsOfInput heard reported league plan input report
  pub table : input.seat.table ≡ seat.table
  pub held : input.seat.held ≡ seat.held
  pub counted : under seat.held seat.seen ≡ under input.seat.held input.seat.seen + report.accepted
