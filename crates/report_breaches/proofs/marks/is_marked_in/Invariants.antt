use Rattle.std.proofs.Common.{◌≡◌, false}
use Rattle.std.specs.List.{list_any}
use Rattle.league.specs.Sums.{any_below}
use Rattle.report_breaches.specs.Cells.{names}
use Rattle.report_breaches.specs.within.Terms.{breach_in}
use Rattle.report_breaches.proofs.marks.is_marked_in.Given as goal

abbrev pub invariant-loop-column : goal.invariant-loop-column
invariant-loop-column l =
    any_below l.column (λ k. list_any (names l.schedule l.body l.team l.round) (breach_in l.schedule l.body l.row k)) ≡ false
