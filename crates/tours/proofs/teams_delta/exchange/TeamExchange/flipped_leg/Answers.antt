use Rattle.std.proofs.Common.{◌∙◌}
use Rattle.tours.proofs.exchanged_legs.FlippedLegs.{flipped_delta, flipped_now}
use Rattle.tours.proofs.teams_delta.exchange.TeamExchange.flipped_leg.Goals as goal

pub returns-clause-before : goal.returns-clause-before
returns-clause-before c =
    let x = c.args.self.now in
    c.distance.ensures.value ∙
    flipped_now x.league.now c.teams.ensures.limits.table.symmetric x.schedule.now c.teams-2.ensures.round_robin x.i x.j
    c.args.team c.args.round c.requires.team c.requires.flip c.stop-from.result c.stop-to.result c.away_of-away.result
    c.stop-from.ensures.value c.stop-to.ensures.value c.away_of-away.ensures.value

pub returns-clause-after : goal.returns-clause-after
returns-clause-after c =
    let x = c.args.self.now in
    c.distance-2.ensures.value ∙
    flipped_delta x.league.now c.teams.ensures.limits.table.symmetric x.schedule.now c.teams-2.ensures.round_robin x.i x.j
    c.args.team c.args.round c.requires.team c.requires.flip c.stop-from.result c.stop-to.result c.away_of-away.result
    c.stop-from.ensures.value c.stop-to.ensures.value c.away_of-away.ensures.value c.exchanged-other.result
    c.exchanged-other.ensures.value
