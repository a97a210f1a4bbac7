use Rattle.std.proofs.Common.{◌+◌, ◌*◌}
use Rattle.league.specs.Limits.{max_distance}
use Rattle.fixtures.specs.Games.{round_count}
use Rattle.tours.specs.within.Exchanges.{leg_before, leg_after}
use Rattle.tours.proofs.legs.TwoTotals.{AreTotals}
use Rattle.tours.proofs.teams_delta.exchange.TeamExchange.legs_at_edges.Given as goal

abbrev pub invariant-loop-round : goal.invariant-loop-round
invariant-loop-round l =
    AreTotals (round_count l.self.schedule.now.teams) l.fn.edges l.round-iterator (2 * max_distance) l.before l.after
    (λ s. leg_before l.self l.self.j (s + 1) + leg_before l.self l.self.i (s + 1))
    (λ s. leg_after l.self l.self.j (s + 1) + leg_after l.self l.self.i (s + 1))
