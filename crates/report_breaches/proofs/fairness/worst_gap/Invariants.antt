use Rattle.std.proofs.Common.{◌≡◌, ◌<◌, if◌then◌else◌}
use Rattle.league.specs.Sets.{has}
use Rattle.fixtures.specs.Games.{round_count}
use Rattle.rules.specs.Deviations.{gap, largest_below}
use Rattle.report_breaches.specs.Breaches.{first_largest}
use Rattle.report_breaches.proofs.fairness.worst_gap.Given as goal

abbrev pub invariant-loop-round : goal.invariant-loop-round
invariant-loop-round l = record {
  largest : l.worst.by ≡ largest_below l.round (λ r. if has l.slots r then gap l.schedule l.most l.low l.high r else 0);
  first : l.worst.round ≡ first_largest l.round (λ r. if has l.slots r then gap l.schedule l.most l.low l.high r else 0);
  in_range : l.worst.round < round_count l.schedule.teams;
}
