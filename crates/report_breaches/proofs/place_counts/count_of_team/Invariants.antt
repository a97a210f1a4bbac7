use Rattle.std.proofs.Common.{◌≡◌, ◌≤◌}
use Rattle.report_breaches.specs.within.Terms.{named_of_team}
use Rattle.report_breaches.proofs.place_counts.count_of_team.Given as goal

abbrev pub invariant-loop-round : goal.invariant-loop-round
invariant-loop-round l = record {
  from : l.first ≤ l.round;
  counted : l.count ≡ named_of_team l.schedule l.body l.place l.team l.first l.round;
  few : l.count ≤ l.round;
}
