use Rattle.std.proofs.Common.{Ok, refl, sym, ◌∙◌, ap}
use Rattle.schedule_texts.proofs.Faultless.{told_exactly}
use Rattle.given_start.proofs.begun.started_at_text.Goals as goal

pub returns-in-Some : goal.returns-in-Some
returns-in-Some c =
    let round = sym c.has_round_line.ensures ∙ c.if-not-has_round_line.false in
    let verdict = (c.in_ok-judged.ensures).verdict in
    let told = sym (told_exactly _ _ c.teams-teams.ensures.limits _ verdict) ∙ sym c.into_schedule.ensures ∙ c.in-Some.is in
    rw (round, told) (ap Ok (sym c.begin_at.ensures))

pub returns-in-None : goal.returns-in-None
returns-in-None c =
    let round = sym c.has_round_line.ensures ∙ c.if-not-has_round_line.false in
    let verdict = (c.in_ok-judged.ensures).verdict in
    let told = sym (told_exactly _ _ c.teams-teams.ensures.limits _ verdict) ∙ sym c.into_schedule.ensures ∙ c.in-None.is in
    λ other. rw (round, told) refl
