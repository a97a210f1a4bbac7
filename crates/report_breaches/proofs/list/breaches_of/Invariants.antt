use Rattle.std.proofs.Common.{◌≡◌}
use Rattle.report_breaches.specs.Breaches.{breaches_below}
use Rattle.report_breaches.specs.within.Terms.{breaches_in_row}
use Rattle.report_breaches.proofs.list.breaches_of.Given as goal

abbrev pub invariant-loop-row : goal.invariant-loop-row
invariant-loop-row l = l.list.items ≡ breaches_below l.row (breaches_in_row l.schedule l.rule.body)
