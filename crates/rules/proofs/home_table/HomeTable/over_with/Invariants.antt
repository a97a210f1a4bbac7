use Rattle.league.specs.Limits.{max_teams}
use Rattle.league.proofs.ForCallers.{IsSumWithout}
use Rattle.rules.specs.Deviations.{over}
use Rattle.rules.specs.within.Walked.{row_of, worst_apart}
use Rattle.rules.proofs.home_table.HomeTable.over_with.Given as goal

abbrev pub invariant-loop-other : goal.invariant-loop-other
invariant-loop-other l =
    IsSumWithout max_teams l.fn.others l.other-iterator l.total 255
    (λ o. over (worst_apart l.mask (row_of l.self.rows o) (row_of l.self.rows l.team)) l.most)
