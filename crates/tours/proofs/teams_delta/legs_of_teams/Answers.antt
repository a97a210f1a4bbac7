use Rattle.league.specs.Sets.{has}
use Rattle.fixtures.specs.Games.{IsPair}
use Rattle.fixtures.proofs.ForCallers.{stays_among_closed}
use Rattle.tours.proofs.exchanged_legs.TeamsDelta.{travel_delta, delta_whole, cut_exchanged, cut_stays}
use Rattle.tours.proofs.teams_delta.legs_of_teams.Goals as goal

pub returns-clause-balance : goal.returns-clause-balance
returns-clause-balance c =
    let p : IsPair c.args.schedule.now.teams c.args.i c.args.j =
    record { home_in = c.requires.i; away_in = c.requires.j; distinct = c.requires.distinct } in
    let rr = c.teams-2.ensures.round_robin in
    rw (
      ← cut_exchanged c.args.schedule.now rr c.args.i c.args.j p (has c.rounds_in.result) (has c.args.among)
          c.rounds_in.ensures.members,
      c.guests_legs-of_i.ensures.before,
      c.guests_legs-of_i.ensures.after,
      c.guests_legs-of_j.ensures.before,
      c.guests_legs-of_j.ensures.after,
    )
    (delta_whole _ _ _ _ _ _ _ _
    (travel_delta c.args.schedule.now rr c.args.i c.args.j p (has c.rounds_in.result)
    (cut_stays c.args.schedule.now rr c.args.i c.args.j p (has c.rounds_in.result) (has c.args.among)
    c.rounds_in.ensures.members
    (stays_among_closed c.args.schedule.now c.args.i c.args.j (has c.args.among) c.requires.first_out
    c.requires.second_out c.requires.closed))
    c.args.league.now)
    c.own_legs-own.ensures.balance)
