use Rattle.league.specs.Limits.{max_teams}
use Rattle.league.proofs.ForCallers.{IsSumWithout}
use Rattle.rules.specs.Deviations.{over}
use Rattle.rules.specs.within.GapTables.{gap_at}
use Rattle.rules.proofs.gap_table.GapTable.over_with.Given as goal

abbrev pub invariant-loop-other : goal.invariant-loop-other
invariant-loop-other l =
    IsSumWithout max_teams l.fn.lower l.other-iterator l.total 255 (λ o. over (gap_at l.self.gaps o l.team) l.most)
