use Rattle.std.proofs.Common.{◌+◌, arith}
use Rattle.league.proofs.ForCallers.{lowest_below}
use Rattle.rules.proofs.rows.RowsByRounds.{guests_none, guests_more, guests_all}
use Rattle.rules.proofs.walks.Left.{left_whole, left_fewer}
use Rattle.rules.proofs.counted_rows.guest_rows.Goals as goal

pub loop-opponent-init : goal.loop-opponent-init
loop-opponent-init c =
    let same = c.into_iter-opponent-iterator.ensures.into_iter_gives in
    let none = guests_none c.args.schedule.now c.args.side c.args.opponents _ in (
      left_whole _ _ _ c.requires.opponents same,
      none c.args.round _ same c.empty-first.ensures.members,
      none (c.args.round + 1) _ same c.empty-second.ensures.members,
      none (c.args.round + 2) _ same c.empty-third.ensures.members,
      none (c.args.round + 3) _ same c.empty-fourth.ensures.members,
    )

pub with_guest-first-requires-clause-opponent : goal.with_guest-first-requires-clause-opponent
with_guest-first-requires-clause-opponent c = lowest_below _ _ _ _ c.loop-opponent.invariant.0.below c.in-Some.ensures.steps

pub with_guest-second-requires-clause-opponent : goal.with_guest-second-requires-clause-opponent
with_guest-second-requires-clause-opponent c = lowest_below _ _ _ _ c.loop-opponent.invariant.0.below c.in-Some.ensures.steps

pub with_guest-third-requires-clause-opponent : goal.with_guest-third-requires-clause-opponent
with_guest-third-requires-clause-opponent c = lowest_below _ _ _ _ c.loop-opponent.invariant.0.below c.in-Some.ensures.steps

pub with_guest-fourth-requires-clause-opponent : goal.with_guest-fourth-requires-clause-opponent
with_guest-fourth-requires-clause-opponent c = lowest_below _ _ _ _ c.loop-opponent.invariant.0.below c.in-Some.ensures.steps

pub loop-opponent-preserved : goal.loop-opponent-preserved
loop-opponent-preserved c =
    let guests = guests_more c.args.schedule.now c.requires.round_robin c.args.side c.args.opponents _ _ _ in
    let some = c.loop-opponent.invariant.0 in
    let taken = c.in-Some.ensures.steps in
    let in_games = lowest_below _ _ _ _ some.below taken in (
      left_fewer _ _ _ _ _ some taken,
      guests c.args.round _ _ (omega (arith, c.requires.rounds)) in_games some taken c.loop-opponent.invariant.1 c.with_guest-first.ensures,
      guests (c.args.round + 1) _ _ (omega (arith, c.requires.rounds)) in_games some taken c.loop-opponent.invariant.2
          c.with_guest-second.ensures,
      guests (c.args.round + 2) _ _ (omega (arith, c.requires.rounds)) in_games some taken c.loop-opponent.invariant.3
          c.with_guest-third.ensures,
      guests (c.args.round + 3) _ _ (omega (arith, c.requires.rounds)) in_games some taken c.loop-opponent.invariant.4
          c.with_guest-fourth.ensures,
    )

pub returns-clause-first : goal.returns-clause-first
returns-clause-first c =
    guests_all c.args.schedule.now c.args.side c.args.opponents _ _ _ c.in-None.ensures.steps.0 c.loop-opponent.invariant.1

pub returns-clause-second : goal.returns-clause-second
returns-clause-second c =
    guests_all c.args.schedule.now c.args.side c.args.opponents _ _ _ c.in-None.ensures.steps.0 c.loop-opponent.invariant.2

pub returns-clause-third : goal.returns-clause-third
returns-clause-third c =
    guests_all c.args.schedule.now c.args.side c.args.opponents _ _ _ c.in-None.ensures.steps.0 c.loop-opponent.invariant.3

pub returns-clause-fourth : goal.returns-clause-fourth
returns-clause-fourth c =
    guests_all c.args.schedule.now c.args.side c.args.opponents _ _ _ c.in-None.ensures.steps.0 c.loop-opponent.invariant.4
