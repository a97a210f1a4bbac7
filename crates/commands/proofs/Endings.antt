-- The endings of the commands.
use Rattle.std.proofs.Common.{rules, ◌≡◌, ◌≢◌, ◌≤◌, ◌<◌, nat_lt, if◌then◌else◌, ℕ, List, [], length, Option, Some, None, IfSome, Result, Ok, Err, OnOk, OnErr, refl, subst, sym}
use Rattle.std.specs.Io.KnownBytes.{Appends}
use Rattle.byte_streams.specs.Limits.{write_limit}
use Rattle.byte_streams.specs.declared.tally.Tally.{Tally}
use Rattle.byte_streams.specs.declared.writing.WriteFault.{WriteFault}
use Rattle.byte_streams.specs.Sending.{AppendsPrefix}
use Rattle.byte_streams.specs.Tally.{FailsWriting}
use Rattle.league.specs.League.{LeagueData, IsLeague}
use Rattle.given_start.specs.declared.begun.Beginning.{Beginning}
use Rattle.choices.specs.declared.symmetry.Symmetry.{Symmetry}
use Rattle.league_csv.specs.League.{GivesLeague, IsLeagueOf, rounded_in, table_for}
use Rattle.league_csv.specs.LeagueText.{Said}
use Rattle.league_csv.specs.Table.{TableData}
use Rattle.league_csv.specs.declared.table.MadeLeague.{MadeLeague}
use Rattle.choices.specs.Limits.{max_room}
use Rattle.fixture_board.specs.Record.{Book, book}
use Rattle.fixture_board.specs.declared.board.BoardFault.{BoardFault}
use Rattle.fixture_board.specs.declared.board.BoardFault.TheVariants as board
use Rattle.search.specs.declared.runs.Outcome.{Outcome}
use Rattle.search.specs.declared.runs.RunFault.{RunFault}
use Rattle.search.specs.declared.runs.RunFault.TheVariants as run
use Rattle.choices.specs.declared.search_plan.SearchPlan.{SearchPlan}
use Rattle.search.specs.Outcomes.{IsFor, IsOutcome}
use Rattle.board_texts.specs.PlayText.{play_text}
use Rattle.board_texts.proofs.ForCallers.{played_again, plays_back}
use Rattle.commands.specs.declared.fault.ProgramFault.{ProgramFault}
use Rattle.commands.specs.declared.fault.ProgramFault.TheVariants.{Read, TooLong, League, Begin, Row, Distances, NoSheet, Room, Workers, Spawn, Receipts, Write, Memory}
use Rattle.commands.specs.declared.search_end.SearchEnd.{SearchEnd}
use Rattle.commands.specs.Begun.{Begins}
use Rattle.commands.specs.Outcome.{value_of, without_value, Answer, EndsOn}
use Rattle.commands.specs.Fault.{of_board, of_run}
use Rattle.commands.specs.within.Fault.{of_writing}
use Rattle.commands.specs.Find.{AnswersFindOn, search_text}
use Rattle.commands.specs.MadeLeague.{AnswersLeague}
use Rattle.commands.specs.Play.{AnswersPlayOn}
use Rattle.commands.specs.SearchEnd.{end_of}

-- the text that answers was written, unless a write failed
pub ends_written : {W : Type 0} (held : W → Option (List ℕ)) (pushes : W → Tally) (answers : Answer) (text : List ℕ) (before after : W)
    (outcome : Result Unit WriteFault) → answers (Ok text) → OnOk outcome (Appends (held before) (held after) text)
    → OnErr outcome (AppendsPrefix (held before) (held after) text) → OnErr outcome (FailsWriting write_limit (pushes before) (pushes after))
    → EndsOn held pushes answers before after (of_writing outcome tt)
ends_written held pushes answers text before after (Ok done) is ok prefix cause = (text, is, ok)
ends_written held pushes answers text before after (Err fault) is ok prefix cause = (text, is, prefix, cause)

-- the text of a league that was made of a table was written, unless a write failed
pub ends_made : {W : Type 0} (held : W → Option (List ℕ)) (pushes : W → Tally) (choice : Option Symmetry) (said : Said) (bytes : List ℕ)
    (made : MadeLeague) (before after : W) (written : Result Unit WriteFault) → GivesLeague choice said bytes (Ok made)
    → OnOk written (Appends (held before) (held after) made.text.items)
    → OnErr written (AppendsPrefix (held before) (held after) made.text.items)
    → OnErr written (FailsWriting write_limit (pushes before) (pushes after))
    → EndsOn held pushes (AnswersLeague choice said (value_of (of_writing written made.rounded)) bytes) before after
    (without_value (of_writing written made.rounded))
ends_made held pushes choice said bytes made before after (Ok done) (table, read, is) ok prefix cause =
    (made.text.items, (table, read, is), ok)
ends_made held pushes choice said bytes made before after (Err fault) (table, read, is) ok prefix cause =
    (made.text.items, (table, read, record { text_is = is.text_is; reads = is.reads; rounded_is = refl }), prefix, cause)

-- a league and a script are answered by their play text
pub answers_play : (room : ℕ) (bytes : List ℕ) (script : List (List ℕ)) (beginning : Option Beginning) (league : LeagueData)
    → Begins bytes beginning league → IsLeague league → room ≤ max_room
    → AnswersPlayOn room bytes script beginning (Ok (play_text league room script))
answers_play room bytes script beginning league begins limits room_is =
    (league, begins, record { room_is = room_is; text_is = refl; again = played_again league room script limits })

-- nothing was written before a fault that lies in the texts, or where memory is wanting
pub ends_refused : {W : Type 0} (held : W → Option (List ℕ)) (pushes : W → Tally) (answers : Answer) (sink : W)
    → ¬ answers (Err Write) → (fault : ProgramFault) → (fault ≢ Memory → answers (Err fault)) → EndsOn held pushes answers sink sink (Err fault)
ends_refused held pushes answers sink never Memory is = refl
ends_refused held pushes answers sink never Write is = absurd (never (is (λ e. cc)))
ends_refused held pushes answers sink never Read is = (is (λ e. cc), refl)
ends_refused held pushes answers sink never TooLong is = (is (λ e. cc), refl)
ends_refused held pushes answers sink never (League fault) is = (is (λ e. cc), refl)
ends_refused held pushes answers sink never (Begin fault) is = (is (λ e. cc), refl)
ends_refused held pushes answers sink never (Row fault) is = (is (λ e. cc), refl)
ends_refused held pushes answers sink never (Distances fault) is = (is (λ e. cc), refl)
ends_refused held pushes answers sink never NoSheet is = (is (λ e. cc), refl)
ends_refused held pushes answers sink never Room is = (is (λ e. cc), refl)
ends_refused held pushes answers sink never Workers is = (is (λ e. cc), refl)
ends_refused held pushes answers sink never Spawn is = (is (λ e. cc), refl)
ends_refused held pushes answers sink never Receipts is = (is (λ e. cc), refl)

-- a room that is refused for its size is over that of any board
over : (room : ℕ) → board.RoomRange ≡ (if nat_lt max_room room then board.RoomRange else board.Memory) → max_room < room
over room is = search rules

pub too_large : (room : ℕ) (why : BoardFault) → why ≡ (if nat_lt max_room room then board.RoomRange else board.Memory)
    → of_board why ≢ Memory → (of_board why ≡ Room) × (max_room < room)
too_large room board.RoomRange is not_memory = (refl, over room is)
too_large room board.Memory is not_memory = absurd (not_memory refl)

-- for a league that begins and such a room there is no board
pub plays_not : (room : ℕ) (bytes : List ℕ) (script : List (List ℕ)) (beginning : Option Beginning) (league : LeagueData)
    → Begins bytes beginning league → (fault : ProgramFault) → (fault ≡ Room) × (max_room < room)
    → AnswersPlayOn room bytes script beginning (Err fault)
plays_not room bytes script beginning league begins fault is =
    subst (λ (f : ProgramFault). AnswersPlayOn room bytes script beginning (Err f)) (sym is.0) (league, begins, is.1)

pub finds_not : (room : ℕ) (plan : SearchPlan) (bytes : List ℕ) (beginning : Option Beginning) (league : LeagueData)
    → Begins bytes beginning league → (fault : ProgramFault) → (fault ≡ Room) × (max_room < room)
    → AnswersFindOn room plan None bytes beginning (Err fault)
finds_not room plan bytes beginning league begins fault is =
    subst (λ (f : ProgramFault). AnswersFindOn room plan None bytes beginning (Err f)) (sym is.0) (league, begins, is.1)

-- a league, with the room of a board, for a search
module _ (room : ℕ) (plan : SearchPlan) (bytes : List ℕ) (beginning : Option Beginning) (league : LeagueData)
    (begins : Begins bytes beginning league) (room_is : room ≤ max_room) where
  -- it is answered by the search text of an outcome of its run
  answers_find : (outcome : Outcome) (told : Option SearchEnd) → IsLeague league → IsOutcome plan (book league room []) outcome
      → IfSome told (λ end. end ≡ end_of room (length outcome.board.history))
      → AnswersFindOn room plan told bytes beginning (Ok (search_text outcome))
  answers_find outcome told limits of_run end = (
    league,
    begins,
    record {
      outcome = outcome;
      room_is = room_is;
      of_run = of_run;
      text_is = refl;
      again = plays_back league room outcome.board.history limits (rw (of_run.league, of_run.room) at of_run.legal);
      end = end;
    },
  )

  -- which was written, unless a write failed
  pub ends_found : {W : Type 0} (held : W → Option (List ℕ)) (pushes : W → Tally) (before after : W) (outcome : Outcome) (end : SearchEnd)
      (written : Result Unit WriteFault) → IsLeague league → IsOutcome plan (book league room []) outcome
      → end ≡ end_of outcome.board.room (length outcome.board.history)
      → OnOk written (Appends (held before) (held after) (search_text outcome))
      → OnErr written (AppendsPrefix (held before) (held after) (search_text outcome))
      → OnErr written (FailsWriting write_limit (pushes before) (pushes after))
      → EndsOn held pushes (AnswersFindOn room plan (value_of (of_writing written end)) bytes beginning) before after
      (without_value (of_writing written end))
  ends_found held pushes before after outcome end (Ok done) limits of_run is ok prefix cause =
      (search_text outcome, answers_find outcome (Some end) limits of_run (rw of_run.room at is), ok)
  ends_found held pushes before after outcome end (Err fault) limits of_run is ok prefix cause =
      (search_text outcome, answers_find outcome None limits of_run tt, prefix, cause)

  -- or by why the run came to nothing
  pub run_fails : (why : RunFault) (board : Option Book) → IsFor plan (book league room []) why board → of_run why ≢ Memory
      → AnswersFindOn room plan None bytes beginning (Err (of_run why))
  run_fails run.Workers board is not_memory = (league, begins, room_is, is.0)
  run_fails run.Spawn board is not_memory = (league, begins, room_is, is.0)
  run_fails run.Receipts board is not_memory = (league, begins, room_is, is.0)
  run_fails run.Memory board is not_memory = absurd (not_memory refl)
