use Rattle.std.proofs.Common.{sym, ◌∙◌}
use Rattle.league.specs.Sets.{has}
use Rattle.fixtures.specs.Games.{IsPair}
use Rattle.fixtures.proofs.ForCallers.{exchanged_first, exchanged_second, stays_among_closed}
use Rattle.tours.proofs.streaks_and_repeats.StreaksDelta.{part_of_two, teams_delta, exchanged_row, first_flipped, second_flipped}
use Rattle.tours.proofs.streaks_delta.streaks_of_teams.Goals as goal

pub returns-clause-balance : goal.returns-clause-balance
returns-clause-balance c =
    let g = c.args.schedule.now in
    let rr = c.teams-2.ensures.round_robin in
    let number = sym c.rounds-rounds.ensures.number in
    let p : IsPair g.teams c.args.i c.args.j = record { home_in = c.requires.i; away_in = c.requires.j; distinct = c.requires.distinct } in
    let stays = stays_among_closed g c.args.i c.args.j (has c.args.among) c.requires.first_out c.requires.second_out c.requires.closed in
    let row = exchanged_row g rr c.args.i c.args.j p (has c.args.among) stays in
    rw (
      c.streaks_in-2.ensures.value g c.args.i number c.home_rounds-of_i.ensures.members,
      c.streaks_in.ensures.value g c.args.j number c.home_rounds-of_j.ensures.members,
      c.streaks_in-4.ensures.value _ c.args.i number
          (row c.args.i c.args.j _ _ _ c.requires.i (exchanged_first c.args.i c.args.j) c.home_rounds-of_i.ensures.members
          c.home_rounds-of_j.ensures.members
          (λ r. c.symmetric_difference-new_i.ensures.members r ∙
          first_flipped (has c.home_rounds-of_i.result r) (has c.home_rounds-of_j.result r) (has c.args.among r) _ _
          (c.intersection-flipped.ensures.members r) (c.symmetric_difference.ensures.members r))),
      c.streaks_in-3.ensures.value _ c.args.j number
          (row c.args.j c.args.i _ _ _ c.requires.j (exchanged_second c.args.i c.args.j) c.home_rounds-of_j.ensures.members
          c.home_rounds-of_i.ensures.members
          (λ r. c.symmetric_difference-new_j.ensures.members r ∙
          second_flipped (has c.home_rounds-of_i.result r) (has c.home_rounds-of_j.result r) (has c.args.among r) _ _
          (c.intersection-flipped.ensures.members r) (c.symmetric_difference.ensures.members r))),
      c.at_most-at_most.ensures.value,
    )
    (teams_delta g rr c.args.i c.args.j p (has c.args.among) stays c.args.league.now.at_most)

pub returns-clause-within : goal.returns-clause-within
returns-clause-within c =
    let g = c.args.schedule.now in
    let number = sym c.rounds-rounds.ensures.number in
    let p : IsPair g.teams c.args.i c.args.j = record { home_in = c.requires.i; away_in = c.requires.j; distinct = c.requires.distinct } in
    rw (
      c.streaks_in.ensures.value g c.args.j number c.home_rounds-of_j.ensures.members,
      c.streaks_in-2.ensures.value g c.args.i number c.home_rounds-of_i.ensures.members,
      c.at_most-at_most.ensures.value,
    )
    (part_of_two g c.teams-2.ensures.round_robin c.args.i c.args.j p (has c.args.among)
    (stays_among_closed g c.args.i c.args.j (has c.args.among) c.requires.first_out c.requires.second_out c.requires.closed)
    c.args.league.now.at_most)
