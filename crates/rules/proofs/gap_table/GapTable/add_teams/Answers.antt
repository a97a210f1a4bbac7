use Rattle.std.proofs.Common.{◌∙◌, arith}
use Rattle.league.proofs.ForCallers.{lowest_below}
use Rattle.rules.proofs.rows.GapTables.{lacks_left, has_others}
use Rattle.rules.proofs.gap_table.GapTable.add_teams.Goals as goal

pub add_team-requires-clause-team : goal.add_team-requires-clause-team
add_team-requires-clause-team c = lowest_below _ _ _ _ c.loop-team.invariant.2 c.in-Some.ensures.steps

pub loop-team-preserved : goal.loop-team-preserved
loop-team-preserved c = (
  c.add_team.ensures.table,
  c.add_team.ensures.slots ∙ c.loop-team.invariant.1,
  omega (arith, c.loop-team.invariant.2, c.in-Some.ensures.steps.fewer),
  λ t in_rest.
      lacks_left _ _ _ _ _ t c.in-Some.ensures.steps c.add_team.ensures.teams (c.loop-team.invariant.3 t) in_rest,
  λ t in_teams gone.
      has_others _ _ _ _ _ t c.in-Some.ensures.steps c.add_team.ensures.teams (c.loop-team.invariant.4 t in_teams) gone,
)
