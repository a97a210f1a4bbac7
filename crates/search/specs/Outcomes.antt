-- What a run answers.
use Rattle.std.specs.Prelude.{◌≡◌, ◌⊎◌, ℕ, ◌≤◌, List, [], ◌∷◌, length, map, sum_by, All, Option, Some, None}
use Rattle.std.specs.List.Sorted.{IsStrictlyIncreasing}
use Rattle.fixture_board.specs.declared.change.Entry.{Entry}
use Rattle.fixture_board.specs.History.{IsLegal}
use Rattle.fixture_board.specs.Record.{Book}
use Rattle.shared_board.specs.Held.{under}
use Rattle.search.specs.declared.workers.Report.{Report}
use Rattle.choices.specs.declared.search_plan.SearchPlan.{SearchPlan}
use Rattle.search.specs.declared.runs.Outcome.{Outcome}
use Rattle.search.specs.declared.runs.RunFault.{RunFault}
use Rattle.search.specs.declared.runs.RunFault.TheVariants.{Workers, Spawn, Receipts, Memory}
use Rattle.search.specs.declared.runs.RunRefused.{RunRefused}
use Rattle.search.specs.Reports.{IsReport}

abbrev pub IsWorkers : SearchPlan → Type 0
IsWorkers plan = (1 ≤ plan.workers) × (plan.workers ≤ 16)

-- how many entries are under the number
abbrev pub made_by : ℕ → List Entry → ℕ
made_by number h = under (number ∷ []) h

abbrev pub accepted_of : Report → ℕ
accepted_of r = r.accepted

abbrev pub accepted_in : List Report → ℕ
accepted_in = sum_by accepted_of

-- each number has as many entries as its report has accepted
abbrev pub AreCredited : List ℕ → List Report → List Entry → Type 0
AreCredited numbers reports h = map (λ n. made_by n h) numbers ≡ map accepted_of reports

-- The workers have numbers, each below the next, and each worker's accepted count is the number of entries under its own
pub record Credits (reports : List Report) (h : List Entry) : Type 0 where
  pub numbers : List ℕ
  pub rising : IsStrictlyIncreasing numbers
  pub each : AreCredited numbers reports h

-- The plan, a board of the same league and room at a legal history, and a report for each worker. Each entry of the history was
-- accepted, and the reports are credited with it
pub record IsOutcome (plan : SearchPlan) (was : Book) (o : Outcome) : Type 0 where
  pub plan_is : o.plan ≡ plan
  pub workers : IsWorkers plan
  pub league : o.board.league ≡ was.league
  pub room : o.board.room ≡ was.room
  pub legal : IsLegal o.board.league o.board.room o.board.history
  pub many : length o.reports ≡ plan.workers
  pub each : All (IsReport plan.steps) o.reports
  pub sum : accepted_in o.reports ≡ length o.board.history
  pub credits : Credits o.reports o.board.history

-- a board of the same league and room
abbrev pub IsAlike : Book → Option Book → Type 0
IsAlike was None = ⊥
IsAlike was (Some board) = (board.league ≡ was.league) × (board.room ≡ was.room)

abbrev pub IsFor : SearchPlan → Book → RunFault → Option Book → Type 0
IsFor plan was Workers board = (¬ IsWorkers plan) × (board ≡ Some was)
IsFor plan was Spawn board = IsWorkers plan × IsAlike was board
IsFor plan was Receipts board = IsWorkers plan × IsAlike was board
IsFor plan was Memory board = IsWorkers plan × ((board ≡ Some was) ⊎ (board ≡ None))

abbrev pub IsRefusal : SearchPlan → Book → RunRefused → Type 0
IsRefusal plan was e = IsFor plan was e.why e.board
