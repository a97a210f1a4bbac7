use Rattle.std.proofs.Common.{sym, ◌∙◌}
use Rattle.std.proofs.lemmas.Bool.{false≢true}
use Rattle.schedule_texts.proofs.Sheets.{sheet_bad}
use Rattle.schedule_texts.proofs.judged.given_schedule.Goals as goal

pub returns-then-has_bad_line : goal.returns-then-has_bad_line
returns-then-has_bad_line c =
    let bad = sheet_bad _ _ c.requires.sheet ∙ sym c.has_bad_line.ensures ∙ c.if-has_bad_line.true in
    λ g is. false≢true (sym is.sound ∙ bad)

pub returns-in-Ok : goal.returns-in-Ok
returns-in-Ok c = record {
  teams = (c.in-Ok.ensures).teams ∙ c.teams.ensures.value;
  sound = sheet_bad _ _ c.requires.sheet ∙ sym c.has_bad_line.ensures ∙ c.if-has_bad_line.false;
  games = rw c.requires.games at (c.in-Ok.ensures).ok;
}
