use Rattle.std.proofs.Common.{◌+◌}
use Rattle.league.specs.Limits.{max_distance}
use Rattle.fixtures.specs.Games.{round_count}
use Rattle.tours.specs.within.Exchanges.{leg_before, flipped_after}
use Rattle.tours.proofs.legs.TwoTotals.{AreTotals}
use Rattle.tours.proofs.teams_delta.exchange.TeamExchange.flipped_legs.Given as goal

abbrev pub invariant-loop-round : goal.invariant-loop-round
invariant-loop-round l =
    AreTotals (round_count l.self.schedule.now.teams) l.fn.flips l.round-iterator max_distance l.before l.after
    (λ s. leg_before l.self l.team (s + 1)) (λ s. flipped_after l.self l.team (s + 1))
