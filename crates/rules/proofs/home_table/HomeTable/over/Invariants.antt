use Rattle.league.specs.Limits.{max_teams}
use Rattle.league.proofs.ForCallers.{IsSumWithout}
use Rattle.rules.specs.within.HomeTables.{over_of_rows}
use Rattle.rules.proofs.home_table.HomeTable.over.Given as goal

abbrev pub invariant-loop-team : goal.invariant-loop-team
invariant-loop-team l = IsSumWithout max_teams l.fn.teams l.team-iterator l.total 10200 (over_of_rows l.self.rows l.mask l.teams l.set l.most)
