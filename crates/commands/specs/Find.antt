-- What `ttp search` answers.
use Rattle.std.specs.Prelude.{◌≡◌, ◌≤◌, ◌<◌, ℕ, ◌+◌, List, [], ◌∷◌, ◌++◌, length, Option, None, IfSome, Result, Ok, Err}
use Rattle.league.specs.League.{LeagueData}
use Rattle.choices.specs.Limits.{max_room}
use Rattle.fixture_board.specs.Record.{book}
use Rattle.search.specs.declared.runs.Outcome.{Outcome}
use Rattle.choices.specs.declared.search_plan.SearchPlan.{SearchPlan}
use Rattle.search.specs.declared.workers.Report.{Report}
use Rattle.search.specs.Outcomes.{IsOutcome, IsWorkers}
use Rattle.board_texts.specs.SearchText.{PlaysBack, found_text, plan_line, worker_line}
use Rattle.given_start.specs.declared.begun.Beginning.{Beginning}
use Rattle.commands.specs.declared.fault.ProgramFault.{ProgramFault}
use Rattle.commands.specs.declared.fault.ProgramFault.TheVariants.{Room, Workers, Spawn, Receipts}
use Rattle.commands.specs.declared.search_end.SearchEnd.{SearchEnd}
use Rattle.commands.specs.Begun.{Begins, Refuses}
use Rattle.commands.specs.SearchEnd.{end_of}

-- a line for each report, the first with this number
abbrev pub worker_lines : ℕ → List Report → List ℕ
worker_lines number [] = []
worker_lines number (r ∷ rs) = worker_line number r.made r.accepted r.refused ++ worker_lines (number + 1) rs

-- the plan, a line for each worker, and the board in the end
unfoldable pub search_text : Outcome → List ℕ
search_text o =
    plan_line o.plan.workers o.plan.steps o.plan.seed ++ worker_lines 1 o.reports ++ found_text o.board.league o.board.history

-- The search text of an outcome of a run with the plan, on a new board of the league and room. The history in it, given
-- as a script, leads to the same games and the same best. If it is told how the search ended, it ended so
pub record IsSearchText (league : LeagueData) (room : ℕ) (plan : SearchPlan) (told : Option SearchEnd) (text : List ℕ) : Type 0 where
  pub outcome : Outcome
  pub room_is : room ≤ max_room
  pub of_run : IsOutcome plan (book league room []) outcome
  pub text_is : text ≡ search_text outcome
  pub again : PlaysBack league room outcome.board.history
  pub end : IfSome told (λ end. end ≡ end_of room (length outcome.board.history))

-- the league that the bytes stand for, where it is to begin, if the room is that of a board and these workers can be had, or not
abbrev pub Runs : ℕ → List ℕ → Option Beginning → Type 0 → Type 0
Runs room bytes beginning workers = (league : LeagueData) × Begins bytes beginning league × (room ≤ max_room) × workers

-- the search text of a run on the league that the bytes stand for, where it is to begin, or why there is no such league, or a room over
-- that of any board, or a wrong number of workers, or a run that came to nothing
abbrev pub AnswersFindOn : ℕ → SearchPlan → Option SearchEnd → List ℕ → Option Beginning → Result (List ℕ) ProgramFault → Type 0
AnswersFindOn room plan told bytes beginning (Ok text) =
    (league : LeagueData) × Begins bytes beginning league × IsSearchText league room plan told text
AnswersFindOn room plan told bytes beginning (Err Room) = (league : LeagueData) × Begins bytes beginning league × (max_room < room)
AnswersFindOn room plan told bytes beginning (Err Workers) = Runs room bytes beginning (¬ IsWorkers plan)
AnswersFindOn room plan told bytes beginning (Err Spawn) = Runs room bytes beginning (IsWorkers plan)
AnswersFindOn room plan told bytes beginning (Err Receipts) = Runs room bytes beginning (IsWorkers plan)
AnswersFindOn room plan told bytes beginning (Err fault) = Refuses bytes beginning fault

-- the same of an input, whose league begins at its own start, if it is not told how the search ended
abbrev pub AnswersFind : ℕ → SearchPlan → List ℕ → Result (List ℕ) ProgramFault → Type 0
AnswersFind room plan input = AnswersFindOn room plan None input None
