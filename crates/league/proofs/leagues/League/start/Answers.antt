use Rattle.std.proofs.Common.{◌≡◌, ℕ, IfOk, sym, ap, ◌∙◌, subst}
use Rattle.fixtures.specs.Games.{games}
use Rattle.league.specs.League.{LeagueData, teams}
use Rattle.league.specs.Origins.{round_at_start}
use Rattle.league.specs.Starts.{start_of}
use Rattle.league.proofs.leagues.League.start.Goals as goal

pub returns-clause-games : goal.returns-clause-games
returns-clause-games c =
    subst (λ (l : LeagueData). IfOk c.make.result (λ s. s ≡ start_of l)) c.self.view_is
    (subst (λ (n : ℕ). IfOk c.make.result (λ s. s ≡ games n (λ home away. round_at_start n c.self.inside.origin.start home away)))
    (c.teams.ensures.value ∙ sym (ap teams c.self.view_is)) c.make.ensures.games)
