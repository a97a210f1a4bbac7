use Rattle.std.proofs.Common.{◌+◌}
use Rattle.league.specs.Limits.{max_rounds}
use Rattle.league.specs.Sets.{has}
use Rattle.league.specs.Sums.{count_where}
use Rattle.league.proofs.ForCallers.{IsSumWithout}
use Rattle.rules.specs.Deviations.{over}
use Rattle.rules.proofs.windows.over_from.Given as goal

abbrev pub invariant-loop-first : goal.invariant-loop-first
invariant-loop-first l =
    IsSumWithout l.windows l.fn.starts l.first-iterator l.total max_rounds
    (λ first. over (count_where l.window (λ k. has l.set (first + k))) l.most)
