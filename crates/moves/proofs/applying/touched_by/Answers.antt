use Rattle.std.proofs.Common.{sym, ◌∙◌, ap, subst}
use Rattle.league.specs.Sets.{has}
use Rattle.fixtures.specs.declared.exchanges.Exchange.{Exchange}
use Rattle.fixtures.specs.Exchanges.{Fits, IsOfTeams}
use Rattle.fixtures.specs.within.Exchanges.{touched_by}
use Rattle.fixtures.proofs.ForCallers.{stays_fitting}
use Rattle.fixtures.proofs.ForCallers.{touched_by_first}
use Rattle.moves.proofs.applying.touched_by.Goals as goal

pub returns-in-Teams-clause-teams : goal.returns-in-Teams-clause-teams
returns-in-Teams-clause-teams c t =
    let fits : IsOfTeams c.args.schedule.now c.in-Teams.i c.in-Teams.j (has c.in-Teams.among) =
    subst (Fits c.args.schedule.now) c.in-Teams.is c.requires.fits in
    c.teams_with_opponents.ensures t ∙
    touched_by_first c.args.schedule.now c.in-Teams.i c.in-Teams.j (has c.in-Teams.among) fits.pair
    (stays_fitting c.args.schedule.now c.in-Teams.i c.in-Teams.j (has c.in-Teams.among) fits) t ∙
    ap (λ (e : Exchange). touched_by c.args.schedule.now e t) (sym c.in-Teams.is)
