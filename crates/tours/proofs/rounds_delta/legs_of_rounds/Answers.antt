use Rattle.std.proofs.Common.{◌<◌, arith}
use Rattle.league.specs.Sets.{has}
use Rattle.fixtures.specs.Games.{round_count, IsPair}
use Rattle.tours.proofs.exchanged_legs.RoundsDelta.{delta_forward, delta_back}
use Rattle.tours.proofs.rounds_delta.legs_of_rounds.Goals as goal

pub returns-then-k-l-clause-balance : goal.returns-then-k-l-clause-balance
returns-then-k-l-clause-balance c =
    let p : IsPair (round_count c.args.schedule.now.teams) c.args.k c.args.l =
    record { home_in = c.requires.k; away_in = c.requires.l; distinct = c.requires.distinct } in
    rw (c.legs_of_ordered.ensures.before, c.legs_of_ordered.ensures.after)
    (delta_forward c.args.league.now c.args.schedule.now c.teams_in-teams.ensures.round_robin c.args.k c.args.l p
    (has c.args.among) c.requires.closed (has c.teams_in-teams.result) c.teams_in-teams.ensures.members c.if-k-l.true)

pub returns-else-k-l-clause-balance : goal.returns-else-k-l-clause-balance
returns-else-k-l-clause-balance c =
    let p : IsPair (round_count c.args.schedule.now.teams) c.args.k c.args.l =
    record { home_in = c.requires.k; away_in = c.requires.l; distinct = c.requires.distinct } in
    let back : c.args.l < c.args.k = omega (arith, c.requires.distinct, c.if-k-l.false) in
    rw (c.legs_of_ordered-else-k-l.ensures.before, c.legs_of_ordered-else-k-l.ensures.after)
    (delta_back c.args.league.now c.args.schedule.now c.teams_in-teams.ensures.round_robin c.args.k c.args.l p
    (has c.args.among) c.requires.closed (has c.teams_in-teams.result) c.teams_in-teams.ensures.members back)
