use Rattle.std.proofs.Common.{◌<◌, arith}
use Rattle.league.specs.Limits.{max_teams}
use Rattle.league.proofs.ForCallers.{lowest_below}
use Rattle.rules.proofs.rows.HomeTables.{between_none, between_more, none_further}
use Rattle.rules.proofs.home_table.HomeTable.spread.Goals as goal

pub loop-team-init : goal.loop-team-init
loop-team-init c = between_none _ _ _ _ _ (omega arith) c.into_iter-team-iterator.ensures.into_iter_gives

pub bounds-self-from : goal.bounds-self-from
bounds-self-from c =
    let in_table : c.in-Some.team < max_teams = lowest_below _ _ _ _ c.loop-team.invariant.below c.in-Some.ensures.steps in
    omega (arith, in_table, c.from.ensures)

pub loop-team-preserved : goal.loop-team-preserved
loop-team-preserved c =
    between_more _ _ _ _ _ _ _ _ _ c.from.result c.loop-team.invariant c.in-Some.ensures.steps c.from.ensures c.raise.ensures
    c.lower.ensures

pub returns : goal.returns
returns c = λ t o in_t in_o.
    omega (
      arith,
      c.into.ensures,
      c.worst_apart.ensures,
      none_further _ c.args.mask.now _ _ _ _ c.in-None.ensures.steps.0 c.loop-team.invariant t o in_t in_o,
    )
