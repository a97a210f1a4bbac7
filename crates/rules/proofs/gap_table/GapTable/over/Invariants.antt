use Rattle.league.specs.Limits.{max_teams}
use Rattle.league.proofs.ForCallers.{IsSumWithout}
use Rattle.rules.specs.within.GapTables.{over_of_gaps}
use Rattle.rules.proofs.gap_table.GapTable.over.Given as goal

abbrev pub invariant-loop-team : goal.invariant-loop-team
invariant-loop-team l = IsSumWithout max_teams l.fn.teams l.team-iterator l.total 10200 (over_of_gaps l.self.gaps l.teams l.set l.most)
