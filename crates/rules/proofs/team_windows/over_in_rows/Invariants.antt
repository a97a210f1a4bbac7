use Rattle.std.proofs.Common.{◌≡◌, ℕ, ◌+◌, ◌*◌, ◌≤◌, IfSome}
use Rattle.league.specs.Limits.{max_teams, max_rounds}
use Rattle.league.specs.Sets.{has, IsBelow}
use Rattle.league.specs.Sums.{sum_where}
use Rattle.rules.specs.within.TeamWindows.{over_from}
use Rattle.rules.proofs.rows.WaitingStart.{of_waiting}
use Rattle.rules.proofs.team_windows.over_in_rows.Given as goal

abbrev pub invariant-loop-start : goal.invariant-loop-start
invariant-loop-start l = record {
  waits : IfSome l.waiting (λ first. first + l.window ≤ max_rounds);
  below : (m : ℕ) → IsBelow m l.fn.starts → IsBelow m l.start-iterator;
  sum : (n m : ℕ) → IsBelow n l.teams → IsBelow m l.fn.starts →
      l.total + of_waiting l.waiting (over_from l.rows l.teams l.window l.most n) +
      sum_where m (has l.start-iterator) (over_from l.rows l.teams l.window l.most n) ≡
      sum_where m (has l.fn.starts) (over_from l.rows l.teams l.window l.most n);
  within : (m : ℕ) → IsBelow m l.fn.starts →
      l.total + of_waiting l.waiting (λ _. 2 * max_teams) + sum_where m (has l.start-iterator) (λ _. 2 * max_teams) ≤
      sum_where m (has l.fn.starts) (λ _. 2 * max_teams);
}
