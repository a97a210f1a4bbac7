use Rattle.std.proofs.Common.{◌<◌, arith}
use Rattle.league.specs.Sets.{has}
use Rattle.tours.proofs.streaks_and_repeats.RepeatsDelta.{repeats_forward, repeats_back}
use Rattle.tours.proofs.repeats_delta.repeats_of_rounds.Goals as goal

pub returns-then-k-l-clause-balance : goal.returns-then-k-l-clause-balance
returns-then-k-l-clause-balance c =
    rw (c.repeats_of_ordered.ensures.before, c.repeats_of_ordered.ensures.after)
    (repeats_forward c.args.schedule.now c.teams_in-teams.ensures.round_robin c.args.k c.args.l
    (record { home_in = c.requires.k; away_in = c.requires.l; distinct = c.requires.distinct })
    (has c.args.among) c.requires.closed (has c.teams_in-teams.result) c.teams_in-teams.ensures.members c.if-k-l.true)

pub returns-else-k-l-clause-balance : goal.returns-else-k-l-clause-balance
returns-else-k-l-clause-balance c =
    let back : c.args.l < c.args.k = omega (arith, c.requires.distinct, c.if-k-l.false) in
    rw (c.repeats_of_ordered-else-k-l.ensures.before, c.repeats_of_ordered-else-k-l.ensures.after)
    (repeats_back c.args.schedule.now c.teams_in-teams.ensures.round_robin c.args.k c.args.l
    (record { home_in = c.requires.k; away_in = c.requires.l; distinct = c.requires.distinct })
    (has c.args.among) c.requires.closed (has c.teams_in-teams.result) c.teams_in-teams.ensures.members back)
