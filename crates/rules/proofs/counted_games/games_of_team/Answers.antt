use Rattle.std.proofs.Common.{◌≡◌, ◌+◌, ◌&&◌, not, ◌∙◌, ap, arith}
use Rattle.league.specs.Sets.{has}
use Rattle.league.specs.Sums.{count_where}
use Rattle.league.proofs.ForCallers.{count_where_le}
use Rattle.fixtures.specs.Games.{round_count}
use Rattle.rules.specs.Deviations.{is_counted, games_of_team}
use Rattle.rules.specs.within.Walked.{season_games}
use Rattle.rules.proofs.counted.CountedRounds.{counted_among, counted_in_and_out}
use Rattle.rules.proofs.counted.SeasonCounts.{games_of_season}
use Rattle.rules.proofs.counted_games.games_of_team.Goals as goal

pub returns-then-len-clause-value : goal.returns-then-len-clause-value
unfolding games_of_team
returns-then-len-clause-value c =
    c.games_with.ensures.value ∙
    counted_among c.args.schedule.now c.args.games.now.side (has c.args.games.now.opponents) (has c.args.slots) c.args.team _ _
    c.rounds_on_side-on_side.ensures.members c.intersection-within.ensures.members

pub games_of_season-season-requires : goal.games_of_season-season-requires
games_of_season-season-requires c =
    omega (
      arith,
      c.requires.opponents,
      count_where_le c.args.schedule.now.teams (has c.args.games.now.opponents),
      c.teams.ensures.number,
      c.teams.ensures.most,
    )

-- the games in the slots, and those in the other rounds
in_and_out : (c : goal.After-games_with-2) →
    count_where (round_count c.args.schedule.now.teams)
    (λ r. has c.args.slots r && is_counted c.args.schedule.now c.args.games.now.side (has c.args.games.now.opponents) c.args.team r) +
    c.games_with-2.result ≡ c.games_of_season-season.result
in_and_out c =
    omega (
      arith,
      c.games_with-2.ensures.value ∙
          counted_among c.args.schedule.now c.args.games.now.side (has c.args.games.now.opponents)
          (λ r. not (has c.args.slots r)) c.args.team _ _
          c.rounds_on_side-on_side.ensures.members c.difference-outside.ensures.members,
      c.games_of_season-season.ensures ∙ ap (season_games c.args.games.now.side c.args.opponents) c.has.ensures ∙
          games_of_season c.args.schedule.now c.teams.ensures.round_robin c.args.team c.requires.team c.args.games.now.side
          (has c.args.games.now.opponents) c.args.opponents c.requires.opponents,
      counted_in_and_out (round_count c.args.schedule.now.teams) (has c.args.slots)
          (is_counted c.args.schedule.now c.args.games.now.side (has c.args.games.now.opponents) c.args.team),
    )

pub overflow_sub-result : goal.overflow_sub-result
overflow_sub-result c = omega (arith, in_and_out c)

pub returns-clause-value : goal.returns-clause-value
unfolding games_of_team
returns-clause-value c = omega (arith, in_and_out c)

pub returns-clause-most : goal.returns-clause-most
returns-clause-most c =
    omega (
      arith,
      in_and_out c,
      count_where_le (round_count c.args.schedule.now.teams)
          (λ r. has c.args.slots r && is_counted c.args.schedule.now c.args.games.now.side (has c.args.games.now.opponents) c.args.team r),
      c.teams.ensures.number,
      c.teams.ensures.most,
    )
