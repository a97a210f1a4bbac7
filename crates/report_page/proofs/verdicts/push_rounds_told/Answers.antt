use Rattle.std.proofs.Common.{◌∙◌, refl}
use Rattle.std.proofs.lemmas.Bool.{lt-ltb}
use Rattle.league.specs.Sets.{has}
use Rattle.report_page.specs.RuleWords.{tell_round}
use Rattle.report_page.proofs.SameLists.{rounds_same}
use Rattle.report_page.proofs.verdicts.push_rounds_told.Goals as goal

pub returns : goal.returns
returns c =
    let same = rounds_same c.round_count-rounds.result (has c.rounds_told.result) (tell_round c.args.breaches.now)
    (λ r below. c.rounds_told.ensures.members r ∙ rw (lt-ltb r c.round_count-rounds.result below) refl) in
    rw (same, c.round_count-rounds.ensures.value, c.teams.ensures.value) at c.push_rounds.ensures
