use Rattle.std.proofs.Common.{◌≡◌, false}
use Rattle.std.specs.List.{list_any}
use Rattle.league.specs.Sums.{any_below}
use Rattle.report_breaches.specs.Cells.{names}
use Rattle.report_breaches.specs.within.Terms.{breaches_in_row}
use Rattle.report_breaches.proofs.marks.is_marked.Given as goal

abbrev pub invariant-loop-row : goal.invariant-loop-row
invariant-loop-row l =
    any_below l.row (λ k. list_any (names l.schedule l.rule.body l.team l.round) (breaches_in_row l.schedule l.rule.body k)) ≡ false
