use Rattle.std.proofs.Common.{◌≡◌, ◌++◌}
use Rattle.report_breaches.specs.Breaches.{breaches_below}
use Rattle.report_breaches.specs.within.Terms.{breach_in}
use Rattle.report_breaches.proofs.list.push_row.Given as goal

abbrev pub invariant-loop-column : goal.invariant-loop-column
invariant-loop-column l = l.list.items ≡ l.initial.list.items ++ breaches_below l.column (breach_in l.schedule l.body l.row)
