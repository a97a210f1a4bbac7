use Rattle.std.proofs.Common.{◌≡◌, IfOk, ap, subst}
use Rattle.fixtures.specs.Games.{games}
use Rattle.league.specs.Origins.{OriginData, round_at_start}
use Rattle.league.proofs.origins.Origin.make.Goals as goal

pub returns-clause-games : goal.returns-clause-games
returns-clause-games c =
    subst (λ start. IfOk c.make.result (λ s. s ≡ games c.args.teams (λ home away. round_at_start c.args.teams start home away)))
    (ap (λ (o : OriginData). o.start) c.self.view_is) c.make.ensures.games
