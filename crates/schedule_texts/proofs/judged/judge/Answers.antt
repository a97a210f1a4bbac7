use Rattle.std.proofs.Common.{map, sym, ◌∙◌, ap}
use Rattle.schedule_texts.specs.Given.{placed}
use Rattle.schedule_texts.proofs.Sheets.{sheet_written}
use Rattle.schedule_texts.proofs.judged.judge.Goals as goal

pub given_schedule-requires-clause-games : goal.given_schedule-requires-clause-games
given_schedule-requires-clause-games c =
    let written = c.deref.ensures.value ∙ c.in_ok-written.ensures ∙ sym (sheet_written _ _ c.of-sheet.ensures) in
    c.deref-2.ensures.value ∙ c.in_ok-games.ensures ∙ ap (map placed) written

pub returns : goal.returns
returns c =
    let written = c.in_ok-written.ensures ∙ sym (sheet_written _ _ c.of-sheet.ensures) in
    record {
      written = written;
      games = c.in_ok-games.ensures ∙ ap (map placed) (c.deref.ensures.value ∙ written);
      verdict = c.in_ok-schedule.ensures;
    }
