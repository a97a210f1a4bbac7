use Rattle.std.proofs.Common.{◌≡◌, ◌≤◌, ◌*◌}
use Rattle.league.specs.Sums.{sum_below}
use Rattle.report_breaches.specs.within.Terms.{named_in_round}
use Rattle.report_breaches.proofs.place_counts.count_together.Given as goal

abbrev pub invariant-loop-round : goal.invariant-loop-round
invariant-loop-round l = (l.count ≡ sum_below l.round (named_in_round l.schedule l.body l.place)) × (l.count ≤ 40 * l.round)
