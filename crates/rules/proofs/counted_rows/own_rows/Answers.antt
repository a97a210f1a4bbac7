use Rattle.std.proofs.Common.{◌+◌}
use Rattle.league.proofs.ForCallers.{lowest_below}
use Rattle.rules.proofs.rows.RowsByRounds.{own_more}
use Rattle.rules.proofs.walks.Left.{left_fewer}
use Rattle.rules.proofs.counted_rows.own_rows.Goals as goal

pub with_own-first-requires-clause-team : goal.with_own-first-requires-clause-team
with_own-first-requires-clause-team c = lowest_below _ _ _ _ c.loop-team.invariant.0.below c.in-Some.ensures.steps

pub with_own-second-requires-clause-team : goal.with_own-second-requires-clause-team
with_own-second-requires-clause-team c = lowest_below _ _ _ _ c.loop-team.invariant.0.below c.in-Some.ensures.steps

pub with_own-third-requires-clause-team : goal.with_own-third-requires-clause-team
with_own-third-requires-clause-team c = lowest_below _ _ _ _ c.loop-team.invariant.0.below c.in-Some.ensures.steps

pub with_own-fourth-requires-clause-team : goal.with_own-fourth-requires-clause-team
with_own-fourth-requires-clause-team c = lowest_below _ _ _ _ c.loop-team.invariant.0.below c.in-Some.ensures.steps

pub loop-team-preserved : goal.loop-team-preserved
loop-team-preserved c =
    let own = own_more c.args.schedule.now c.args.side c.args.opponents _ c.args.teams _ _ _ in
    let some = c.loop-team.invariant.0 in
    let taken = c.in-Some.ensures.steps in (
      left_fewer _ _ _ _ _ some taken,
      own c.args.round _ _ some taken c.loop-team.invariant.1 c.with_own-first.ensures,
      own (c.args.round + 1) _ _ some taken c.loop-team.invariant.2 c.with_own-second.ensures,
      own (c.args.round + 2) _ _ some taken c.loop-team.invariant.3 c.with_own-third.ensures,
      own (c.args.round + 3) _ _ some taken c.loop-team.invariant.4 c.with_own-fourth.ensures,
    )
