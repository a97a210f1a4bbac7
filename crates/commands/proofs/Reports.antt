-- The ending of a report.
use Rattle.std.proofs.Common.{◌≡◌, ℕ, List, Option, Some, None, option_map, Result, Ok, Err, OnOk, OnErr, ap, refl}
use Rattle.std.specs.Io.KnownBytes.{Appends}
use Rattle.byte_streams.specs.Limits.{write_limit}
use Rattle.byte_streams.specs.declared.tally.Tally.{Tally}
use Rattle.byte_streams.specs.declared.writing.WriteFault.{WriteFault}
use Rattle.byte_streams.specs.Sending.{AppendsPrefix}
use Rattle.byte_streams.specs.Tally.{FailsWriting}
use Rattle.league_hints.specs.Remarks.{remarks_on}
use Rattle.fixtures.specs.Games.{Games}
use Rattle.league.specs.League.{LeagueData, teams}
use Rattle.given_start.specs.declared.begun.Beginning.{Beginning}
use Rattle.schedule_csv.specs.declared.fault.TableFault.{TableFault}
use Rattle.schedule_csv.specs.declared.fault.TableFault.TheVariants as table
use Rattle.schedule_csv.specs.Table.{schedule_lines, GivesLines}
use Rattle.schedule_texts.specs.Given.{IsVerdict}
use Rattle.choices.specs.declared.format.Format.{Format}
use Rattle.report_page.specs.Format.{report_in}
use Rattle.commands.specs.declared.verdict.Verdict.{Verdict}
use Rattle.commands.specs.Fault.{of_table}
use Rattle.commands.specs.within.Fault.{of_writing}
use Rattle.commands.specs.Outcome.{value_of, without_value, EndsOn}
use Rattle.commands.specs.Report.{AnswersReportOn, IsToldOf}
use Rattle.commands.specs.Begun.{Begins}
use Rattle.commands.proofs.Endings.{ends_written}

-- a league and lines that were read, and the games that they give
module _ (format : Format) (bytes : List ℕ) (given : Option (List (List ℕ))) (beginning : Option Beginning) (league : LeagueData)
    (lines : List (List ℕ)) (games : Option Games) (begins : Begins bytes beginning league) (given_is : option_map (schedule_lines league) given ≡ Some (Ok lines))
    (verdict_is : IsVerdict (teams league) lines games) where
  abbrev report : List ℕ
  report = report_in format league lines games (remarks_on bytes)

  answers : (told : Option Verdict) → IsToldOf league games told → AnswersReportOn format told bytes given beginning (Ok report)
  answers told is =
      (league, begins, lines, given_is, record { games = games; given = verdict_is; text_is = refl; verdict = is })

  -- their report was written, unless a write failed
  pub ends_reported : {W : Type 0} (held : W → Option (List ℕ)) (pushes : W → Tally) (before now : W) (verdict : Verdict)
      (outcome : Result Unit WriteFault) → IsToldOf league games (Some verdict)
      → OnOk outcome (Appends (held before) (held now) report) → OnErr outcome (AppendsPrefix (held before) (held now) report)
      → OnErr outcome (FailsWriting write_limit (pushes before) (pushes now))
      → EndsOn held pushes (AnswersReportOn format (value_of (of_writing outcome verdict)) bytes given beginning) before now
      (without_value (of_writing outcome verdict))
  ends_reported held pushes before now verdict (Ok done) is ok prefix cause =
      ends_written held pushes (AnswersReportOn format (Some verdict) bytes given beginning) report before now (Ok done)
      (answers (Some verdict) is) ok prefix cause
  ends_reported held pushes before now verdict (Err fault) is ok prefix cause =
      ends_written held pushes (AnswersReportOn format None bytes given beginning) report before now (Err fault) (answers None tt) ok prefix
      cause

-- a table gives no schedule
pub ends_at_row : {W : Type 0} (held : W → Option (List ℕ)) (pushes : W → Tally) (sink : W) (format : Format) (bytes : List ℕ)
    (given : Option (List (List ℕ))) (lines : List (List ℕ)) (beginning : Option Beginning) (league : LeagueData) (fault : TableFault)
    → Begins bytes beginning league → given ≡ Some lines → GivesLines league lines (Err fault)
    → EndsOn held pushes (AnswersReportOn format None bytes given beginning) sink sink (Err (of_table fault))
ends_at_row held pushes sink format bytes given lines beginning league (table.Row row) begins given_is is =
    ((league, begins, rw given_is (ap Some is)), refl)
ends_at_row held pushes sink format bytes given lines beginning league table.Memory begins given_is is = refl
