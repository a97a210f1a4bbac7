-- What the program does for a job, and its exit status.
use Rattle.std.specs.Prelude.{◌≡◌, ◌≢◌, ◌≤◌, ◌⊎◌, ◌==◌, ◌&&◌, ◌||◌, ℕ, Bool, true, false, not, is_some, List, [], length, codes, unwrap_or}
use Rattle.std.specs.Prelude.{Option, Some, None, option_map, Result, Ok, Err, IfOk}
use Rattle.std.specs.Str.Lines.{lines}
use Rattle.clap.specs.declared.error.kind.ErrorKind.{ErrorKind as Kind}
use Rattle.clap.specs.declared.error.kind.ErrorKind.TheVariants.{OutOfMemory, DisplayHelp, DisplayVersion}
use Rattle.options.specs.declared.job.Job.{Job}
use Rattle.options.specs.declared.job.Job.TheVariants.{Start, Play, Improve, Find, Report, League as Make, Bound}
use Rattle.options.specs.Beginnings.{Beginning as Kept}
use Rattle.options.specs.Files.{Files}
use Rattle.improvement.specs.declared.plan.ImprovePlan.{ImprovePlan}
use Rattle.policy.specs.Limits.{max_effort}
use Rattle.byte_streams.specs.declared.tally.Tally.{Tally}
use Rattle.text_lines.specs.Input.{lines_after, text_before}
use Rattle.given_start.specs.declared.begun.Beginning.{Beginning}
use Rattle.league.specs.declared.fault.LeagueFault.{LeagueFault}
use Rattle.commands.specs.Hinted.{IsAdvice}
use Rattle.commands.specs.declared.fault.ProgramFault.{ProgramFault}
use Rattle.commands.specs.declared.hints.LeagueRefusal.{LeagueRefusal}
use Rattle.commands.specs.declared.hints.LeagueRefusal.TheVariants.{Bare, Hinted}
use Rattle.commands.specs.declared.search_end.SearchEnd.{SearchEnd}
use Rattle.commands.specs.declared.verdict.Verdict.{Verdict}
use Rattle.commands.specs.declared.verdict.Verdict.TheVariants.{Feasible, Infeasible}
use Rattle.commands.specs.Outcome.{value_of, without_value, EndsFrom, EndsOn}
use Rattle.commands.specs.Start.{AnswersStartOn}
use Rattle.commands.specs.Play.{AnswersPlayOn}
use Rattle.commands.specs.Find.{AnswersFindOn}
use Rattle.commands.specs.Improve.{EndsImproveOn}
use Rattle.commands.specs.Report.{AnswersReportOn}
use Rattle.commands.specs.MadeLeague.{AnswersLeague}
use Rattle.commands.specs.Bound.{AnswersBound}
use Rattle.cli.specs.declared.jobs.Ending.{Ending}
use Rattle.cli.specs.declared.jobs.Ending.TheVariants.{Written, Judged, Searched, Made}

-- the verdict in how a job ended well, if there is one
abbrev pub verdict_in : Option Ending → Option Verdict
verdict_in (Some (Judged verdict)) = Some verdict
verdict_in told = None

-- how a search ended, if it is told
abbrev pub search_end_in : Option Ending → Option SearchEnd
search_end_in (Some (Searched end)) = Some end
search_end_in told = None

-- how many distances of a table were rounded, if it is told
abbrev pub rounded_in : Option Ending → Option ℕ
rounded_in (Some (Made rounded)) = Some rounded
rounded_in told = None

-- whether the job ends with a verdict: a report or an improvement
abbrev pub is_judged : Job → Bool
is_judged (Report format) = true
is_judged (Improve workers seed effort seconds history) = true
is_judged job = false

abbrev pub is_search : Job → Bool
is_search (Find room plan) = true
is_search job = false

-- a job that ended well has a verdict if it is a report or an improvement, and else none
abbrev pub HasVerdict : Job → Result Ending ProgramFault → Type 0
HasVerdict job outcome = IfOk outcome (λ ending. is_some (verdict_in (Some ending)) ≡ is_judged job)

-- it tells how a search ended if it is one, and else nothing of the kind
abbrev pub HasSearchEnd : Job → Result Ending ProgramFault → Type 0
HasSearchEnd job outcome = IfOk outcome (λ ending. is_some (search_end_in (Some ending)) ≡ is_search job)

-- the plan of one improvement or, if there are seconds for them, of improvements that follow each other, of which the first has this effort
abbrev pub plan_of : ℕ → ℕ → ℕ → Option ℕ → Bool → ImprovePlan
plan_of workers seed effort None history =
    record { workers = workers; seed = seed; effort = effort; first = None; history = history }
plan_of workers seed effort (Some seconds) history =
    record { workers = workers; seed = seed; effort = max_effort; first = Some effort; history = history }

-- whether the best schedule of an improvement has the history that leads to it
abbrev pub wants_history : Job → Bool
wants_history (Improve workers seed effort seconds history) = history
wants_history job = false

-- the league's text and the lines beside it: all of an input and of the second text if that was read by itself, otherwise what
-- stands before and after the word
abbrev pub league_part : List ℕ → List ℕ → Option (List ℕ) → List ℕ
league_part word input (Some second) = input
league_part word input None = text_before word input

abbrev pub lines_part : List ℕ → List ℕ → Option (List ℕ) → Option (List (List ℕ))
lines_part word input (Some second) = Some (lines second)
lines_part word input None = lines_after word input

-- how the command of a job ends that is told to end so, if it is, on an input and a second text that were read, of a league that begins
-- where it is to, or is made and has this name, for a sink with these bytes held and these calls
module _ {W : Type 0} (held : W → Option (List ℕ)) (pushes : W → Tally) (input : List ℕ) (second : Option (List ℕ))
    (beginning : Option Beginning) (title : Option (List ℕ)) where
  abbrev pub EndsJobOn : Job → Option Ending → W → W → Result Unit ProgramFault → Type 0
  EndsJobOn Start told = EndsOn held pushes (AnswersStartOn input beginning)
  EndsJobOn (Play room) told = EndsOn held pushes
      (AnswersPlayOn room (league_part (codes "script") input second) (unwrap_or (lines_part (codes "script") input second) []) beginning)
  EndsJobOn (Improve workers seed effort seconds history) told =
      EndsImproveOn held pushes (plan_of workers seed effort seconds history) (verdict_in told) input beginning
  EndsJobOn (Find room plan) told = EndsOn held pushes (AnswersFindOn room plan (search_end_in told) input beginning)
  EndsJobOn (Report format) told = EndsOn held pushes
      (AnswersReportOn format (verdict_in told) (league_part (codes "sheet") input second) (lines_part (codes "sheet") input second) beginning)
  EndsJobOn (Make choice at_most hard_weight) told = EndsOn held pushes
      (AnswersLeague choice (record { title = title; at_most = at_most; hard_weight = hard_weight }) (rounded_in told) input)
  EndsJobOn Bound told = EndsOn held pushes (AnswersBound input)

  -- the command of the job ended with this outcome, which has a verdict or a search's end if the job is to have one
  pub record Performs (job : Job) (before after : W) (outcome : Result Ending ProgramFault) : Type 0 where
    pub ends : EndsJobOn job (value_of outcome) before after (without_value outcome)
    pub verdict : HasVerdict job outcome
    pub end : HasSearchEnd job outcome

-- how it ends between a source and a sink, for a source with these bytes left and these calls: on the input that was read, of a league
-- that begins at its own start, or is made and has this name
abbrev pub EndsJob : {R W : Type 0} → (R → Option (List ℕ)) → (R → Tally) → (W → Option (List ℕ)) → (W → Tally) → Option (List ℕ) → Job
    → Option Ending → R → R → W → W → Result Unit ProgramFault → Type 0
EndsJob left pulls held pushes title job told = EndsFrom left pulls (λ bytes. EndsJobOn held pushes bytes None None title job told)

-- the exit status after a job
abbrev pub status_of : Result Ending ProgramFault → ℕ
status_of (Ok Written) = 0
status_of (Ok (Judged Feasible)) = 0
status_of (Ok (Judged Infeasible)) = 3
status_of (Ok (Searched end)) = 0
status_of (Ok (Made rounded)) = 0
status_of (Err fault) = 1

-- the job's command ended between the source and the sink, and the exit status is that of how it ended
pub record DoesJob {R W : Type 0} (left : R → Option (List ℕ)) (pulls : R → Tally) (held : W → Option (List ℕ)) (pushes : W → Tally)
    (title : Option (List ℕ)) (job : Job) (source : R) (before after : W) (status : ℕ) : Type 0 where
  pub outcome : Result Ending ProgramFault
  pub source_after : R
  pub ends : EndsJob left pulls held pushes title job (value_of outcome) source source_after before after (without_value outcome)
  pub verdict : HasVerdict job outcome
  pub end : HasSearchEnd job outcome
  pub status_is : status ≡ status_of outcome

-- files follow an improvement: the words name one for the best schedule so far, or one for a line of each leg
abbrev pub is_followed : Files → Bool
is_followed files = is_some files.output || is_some files.log

-- the words name no file, and nothing is kept and no move has a price: all is read from standard input
abbrev pub is_plain : Files → Kept → Bool
is_plain files b = not (is_some files.league) && (not (is_some files.second) && (not (is_some files.from)
    && (not (is_followed files) && (b.rounds == 0 && (length b.games == 0 && b.near == 0)))))

-- boards begin at the schedule of this text, and what is kept and the price are those of the words
pub record IsBeginningOf (from : Option (List ℕ)) (kept : Kept) (beginning : Beginning) : Type 0 where
  pub from_is : option_map (λ text. text.now) beginning.from ≡ from
  pub rounds : beginning.rounds ≡ kept.rounds
  pub games : beginning.games.now ≡ kept.games
  pub near : beginning.near ≡ kept.near

-- the job's command ended on the texts that were read, with what the words keep, and the exit status is that of how it ended
pub record DoesJobOn {W : Type 0} (held : W → Option (List ℕ)) (pushes : W → Tally) (title : Option (List ℕ)) (job : Job) (kept : Kept)
    (input : List ℕ) (second from : Option (List ℕ)) (before after : W) (status : ℕ) : Type 0 where
  pub outcome : Result Ending ProgramFault
  pub beginning : Beginning
  pub begins : IsBeginningOf from kept beginning
  pub performs : Performs held pushes input second (Some beginning) title job before after outcome
  pub status_is : status ≡ status_of outcome

-- the status is that of the job, or 1 if files followed it, since one of them could not be written
abbrev pub IsStatusBehind : Files → ℕ → ℕ → Type 0
IsStatusBehind files of_job status = (status ≡ of_job) ⊎ ((is_followed files ≡ true) × (status ≡ 1))

-- a text could not be read or a file could not be written, or the job's command ended on the texts that were read
abbrev pub EndsWithFiles : {W : Type 0} → (W → Option (List ℕ)) → (W → Tally) → Option (List ℕ) → Job → Files → Kept → W → W → ℕ → Type 0
EndsWithFiles held pushes title job files kept before after status = ((status ≡ 1) × (after ≡ before))
    ⊎ ((input : List ℕ) × (second : Option (List ℕ)) × (from : Option (List ℕ)) × (of_job : ℕ)
    × DoesJobOn held pushes title job kept input second from before after of_job × IsStatusBehind files of_job status)

-- the words name a report or an improvement
abbrev pub IsJudged : Option Job → Type 0
IsJudged None = ⊥
IsJudged (Some job) = is_judged job ≡ true

-- the exit status of a fault on the command line: 2, but 1 if memory ran out; and 0 after help and the version or, if they can't be
-- written, 1
pub record IsStatusOf (kind : Kind) (status : ℕ) : Type 0 where
  pub memory : kind ≡ OutOfMemory → status ≡ 1
  pub shown : kind ≡ DisplayHelp → status ≤ 1
  pub told : kind ≡ DisplayVersion → status ≤ 1
  pub mistake : kind ≢ OutOfMemory → kind ≢ DisplayHelp → kind ≢ DisplayVersion → status ≡ 2

-- the status where the words have this fault: that of the fault, or 1 if memory ran out while they were read
abbrev pub IsStatusOfWords : Kind → ℕ → Type 0
IsStatusOfWords kind status = (status ≡ 1) ⊎ IsStatusOf kind status

-- a fault of a league's text is told with the hint on it, if there is one
abbrev pub IsHinted : List ℕ → LeagueFault → LeagueRefusal → Type 0
IsHinted bytes fault (Hinted told hint) = (told ≡ fault) × IsAdvice bytes fault (Some hint)
IsHinted bytes fault (Bare told) = (told ≡ fault) × IsAdvice bytes fault None
