use Rattle.std.proofs.Common.{◌≡◌, ℕ, IfOk, sym, ap, ◌∙◌, subst}
use Rattle.fixtures.specs.Games.{Games, games}
use Rattle.league.specs.declared.origins.Start.{Start}
use Rattle.league.specs.declared.origins.Start.TheVariants.{Given}
use Rattle.league.specs.Origins.{round_at_start, IsStartFor}
use Rattle.league.proofs.Beginnings.{given_is}
use Rattle.league.proofs.origins.Start.make.Goals as goal

-- the games of a start
abbrev at : ℕ → Start → Games
at n start = games n (λ home away. round_at_start n start home away)

pub returns-in-Berger-clause-games : goal.returns-in-Berger-clause-games
returns-in-Berger-clause-games c =
    subst (λ start. IfOk c.berger.result (λ s. s ≡ at c.args.teams start)) (sym c.in-Berger.is) c.berger.ensures.games

pub returns-in-Fide-clause-games : goal.returns-in-Fide-clause-games
returns-in-Fide-clause-games c =
    subst (λ start. IfOk c.berger_fide.result (λ s. s ≡ at c.args.teams start)) (sym c.in-Fide.is) c.berger_fide.ensures.games

pub returns-in-Given-clause-games : goal.returns-in-Given-clause-games
returns-in-Given-clause-games c =
    let fits : IsStartFor c.args.teams (Given c.in-Given.schedule) =
    subst (λ start. IsStartFor c.args.teams start) c.in-Given.is c.requires.fits in
    let is : c.in-Given.schedule ≡ at c.args.teams c.args.self.now =
    sym (given_is c.args.teams c.in-Given.schedule fits) ∙ ap (at c.args.teams) (sym c.in-Given.is) in
    subst (λ g. IfOk c.duplicate.result (λ s. s ≡ g)) is c.duplicate.ensures
