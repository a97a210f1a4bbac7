use Rattle.std.proofs.Common.{◌∙◌}
use Rattle.fixtures.specs.Games.{IsPair}
use Rattle.rules.proofs.counted.OpponentRounds.{met_home, met_away, met_any, none_with_itself}
use Rattle.rules.proofs.counted_games.rounds_with.Goals as goal

pub returns-then-team-opponent-clause-members : goal.returns-then-team-opponent-clause-members
returns-then-team-opponent-clause-members c = λ r.
    c.empty.ensures.members r ∙
    none_with_itself c.args.schedule.now c.requires.round_robin c.args.team c.requires.team c.args.side c.args.opponent r
    c.if-team-opponent.true

pub returns-in-Home-clause-members : goal.returns-in-Home-clause-members
returns-in-Home-clause-members c = λ r.
    let pair : IsPair c.args.schedule.now.teams c.args.team c.args.opponent =
    record { home_in = c.requires.team; away_in = c.requires.opponent; distinct = c.if-team-opponent.false } in
    c.with-at_home.ensures.members r ∙
    rw (c.empty-2.ensures.members r, c.round_of.ensures.value, c.in-Home.is)
    (met_home c.args.schedule.now c.requires.round_robin c.args.team c.requires.team c.args.opponent pair r)

pub returns-in-Away-clause-members : goal.returns-in-Away-clause-members
returns-in-Away-clause-members c = λ r.
    let pair : IsPair c.args.schedule.now.teams c.args.team c.args.opponent =
    record { home_in = c.requires.team; away_in = c.requires.opponent; distinct = c.if-team-opponent.false } in
    c.with-away.ensures.members r ∙
    rw (c.empty-3.ensures.members r, c.round_of-2.ensures.value, c.in-Away.is)
    (met_away c.args.schedule.now c.requires.round_robin c.args.team c.requires.team c.args.opponent pair r)

pub returns-in-Any-clause-members : goal.returns-in-Any-clause-members
returns-in-Any-clause-members c = λ r.
    let pair : IsPair c.args.schedule.now.teams c.args.team c.args.opponent =
    record { home_in = c.requires.team; away_in = c.requires.opponent; distinct = c.if-team-opponent.false } in
    c.union.ensures.members r ∙
    rw (
      c.with-at_home.ensures.members r,
      c.with-away.ensures.members r,
      c.empty-2.ensures.members r,
      c.empty-3.ensures.members r,
      c.round_of.ensures.value,
      c.round_of-2.ensures.value,
      c.in-Any.is,
    )
    (met_any c.args.schedule.now c.requires.round_robin c.args.team c.requires.team c.args.opponent pair r)
