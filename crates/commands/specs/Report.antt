-- What `ttp report` answers.
use Rattle.std.specs.Prelude.{◌≡◌, ℕ, List, Option, Some, None, option_map, Result, Ok, Err, codes}
use Rattle.fixtures.specs.Games.{Games}
use Rattle.league_hints.specs.Remarks.{remarks_on}
use Rattle.league.specs.League.{LeagueData, teams}
use Rattle.text_lines.specs.Input.{lines_after, text_before}
use Rattle.schedule_csv.specs.Table.{schedule_lines}
use Rattle.schedule_texts.specs.Given.{IsVerdict}
use Rattle.report_text.specs.Report.{is_feasible}
use Rattle.choices.specs.declared.format.Format.{Format}
use Rattle.report_page.specs.Format.{report_in}
use Rattle.given_start.specs.declared.begun.Beginning.{Beginning}
use Rattle.commands.specs.declared.fault.ProgramFault.{ProgramFault}
use Rattle.commands.specs.declared.fault.ProgramFault.TheVariants.{Row, NoSheet}
use Rattle.commands.specs.declared.verdict.Verdict.{Verdict}
use Rattle.commands.specs.Begun.{Begins, Refuses}
use Rattle.commands.specs.Verdict.{verdict_of}

-- the verdict on the games, if one is told
abbrev pub IsToldOf : LeagueData → Option Games → Option Verdict → Type 0
IsToldOf league games None = Unit {0}
IsToldOf league games (Some verdict) = verdict ≡ verdict_of (is_feasible league games)

-- the report, in the format, of the double round robin that the lines give for the league of the text, or the text of their
-- faults, with remarks on the members that no format knows; and the verdict on the games
pub record IsReport (format : Format) (league : LeagueData) (bytes : List ℕ) (lines : List (List ℕ)) (told : Option Verdict)
    (text : List ℕ) : Type 0 where
  pub games : Option Games
  pub given : IsVerdict (teams league) lines games
  pub text_is : text ≡ report_in format league lines games (remarks_on bytes)
  pub verdict : IsToldOf league games told

-- the report of these lines, which may be a table, and the league that the bytes stand for, where it is to begin; or why there is none, or
-- that there are no lines, or the first row that gives no game
abbrev pub AnswersReportOn : Format → Option Verdict → List ℕ → Option (List (List ℕ)) → Option Beginning → Result (List ℕ) ProgramFault → Type 0
AnswersReportOn format told bytes given beginning (Ok text) =
    (league : LeagueData) × Begins bytes beginning league × (lines : List (List ℕ))
    × (option_map (schedule_lines league) given ≡ Some (Ok lines))
    × IsReport format league bytes lines told text
AnswersReportOn format told bytes given beginning (Err NoSheet) =
    (league : LeagueData) × Begins bytes beginning league × (given ≡ None)
AnswersReportOn format told bytes given beginning (Err (Row fault)) =
    (league : LeagueData) × Begins bytes beginning league × (option_map (schedule_lines league) given ≡ Some (Err fault))
AnswersReportOn format told bytes given beginning (Err fault) = Refuses bytes beginning fault

-- the same of the league before an input's first line that is `sheet`, which begins at its own start, and of the lines after it
abbrev pub AnswersReport : Format → Option Verdict → List ℕ → Result (List ℕ) ProgramFault → Type 0
AnswersReport format told input =
    AnswersReportOn format told (text_before (codes "sheet") input) (lines_after (codes "sheet") input) None
