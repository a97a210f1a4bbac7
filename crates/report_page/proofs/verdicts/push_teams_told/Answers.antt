use Rattle.std.proofs.Common.{◌∙◌, refl, arith}
use Rattle.std.proofs.lemmas.Bool.{lt-ltb}
use Rattle.league.specs.Sets.{has}
use Rattle.report_page.specs.RuleWords.{tell_team}
use Rattle.report_page.proofs.SameLists.{teams_same}
use Rattle.report_page.proofs.verdicts.push_teams_told.Goals as goal

pub returns : goal.returns
returns c =
    let same = teams_same c.args.league.now (has c.teams_told.result) (tell_team c.args.breaches.now)
    (λ t below. c.teams_told.ensures.members t ∙ rw (lt-ltb t c.teams.result (omega (arith, below, c.teams.ensures.value))) refl) in
    rw same at c.push_teams.ensures
