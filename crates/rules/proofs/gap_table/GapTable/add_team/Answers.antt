use Rattle.std.proofs.Common.{◌<◌, arith}
use Rattle.league.specs.Limits.{max_teams}
use Rattle.league.proofs.ForCallers.{lowest_below}
use Rattle.rules.proofs.rows.GapTables.{added_none, added_more, added_all}
use Rattle.rules.proofs.gap_table.GapTable.add_team.Goals as goal

pub loop-other-init : goal.loop-other-init
loop-other-init c = added_none _ _ _ _ c.requires.table c.into_iter-other-iterator.ensures.into_iter_gives

pub bounds-rows-from-in-loop-other : goal.bounds-rows-from-in-loop-other
bounds-rows-from-in-loop-other c =
    let in_table : c.in-Some.other < max_teams = lowest_below _ _ _ _ c.loop-other.invariant.below c.in-Some.ensures.steps in
    omega (arith, in_table, c.requires.team, c.from-in-loop-other.ensures, c.max-high.ensures)

pub bounds-self-gap_index : goal.bounds-self-gap_index
bounds-self-gap_index c =
    let in_table : c.in-Some.other < max_teams = lowest_below _ _ _ _ c.loop-other.invariant.below c.in-Some.ensures.steps in
    omega (arith, in_table, c.requires.team, c.gap_index.ensures, c.min-low.ensures, c.max-high.ensures)

pub loop-other-preserved : goal.loop-other-preserved
loop-other-preserved c =
    added_more _ _ _ _ _ _ _ c.min-low.result c.max-high.result _ _ c.requires.team c.loop-other.invariant c.in-Some.ensures.steps
    c.requires.lacks (lowest_below _ _ _ _ c.loop-other.invariant.below c.in-Some.ensures.steps) c.min-low.ensures c.max-high.ensures
    c.gap_index.ensures (rw (c.from.ensures, c.from-in-loop-other.ensures) at c.worst_apart.ensures)

pub returns-clause-table : goal.returns-clause-table
returns-clause-table c =
    added_all _ _ _ _ _ _ c.in-None.ensures.steps.0 c.requires.team c.loop-other.invariant
    (c.with-self.ensures.below max_teams c.loop-other.invariant.is.below c.requires.team) c.with-self.ensures.members
