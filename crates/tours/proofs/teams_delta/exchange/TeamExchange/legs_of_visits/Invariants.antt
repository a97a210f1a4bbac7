use Rattle.std.proofs.Common.{◌*◌}
use Rattle.league.specs.Limits.{max_distance}
use Rattle.fixtures.specs.Games.{round_count}
use Rattle.tours.specs.within.Exchanges.{leg_before, leg_after, around_visit}
use Rattle.tours.proofs.legs.TwoTotals.{AreTotals}
use Rattle.tours.proofs.teams_delta.exchange.TeamExchange.legs_of_visits.Given as goal

abbrev pub invariant-loop-round : goal.invariant-loop-round
invariant-loop-round l =
    AreTotals (round_count l.self.schedule.now.teams) l.fn.visits l.round-iterator (2 * max_distance) l.before l.after
    (around_visit l.self (leg_before l.self) l.host) (around_visit l.self (leg_after l.self) l.host)
