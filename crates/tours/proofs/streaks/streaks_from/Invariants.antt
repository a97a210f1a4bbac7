use Rattle.std.proofs.Common.{◌+◌, ◌&&◌}
use Rattle.league.specs.Limits.{max_rounds}
use Rattle.league.specs.Sets.{has}
use Rattle.league.specs.Sums.{count_where}
use Rattle.league.proofs.ForCallers.{IsSumWithout}
use Rattle.tours.specs.Streaks.{windows, is_streak}
use Rattle.tours.proofs.streaks.streaks_from.Given as goal

abbrev pub invariant-loop-team : goal.invariant-loop-team
invariant-loop-team l = IsSumWithout l.schedule.teams l.fn.among l.team-iterator l.total max_rounds (λ t.
    count_where (windows l.schedule (l.at_most + 1)) (λ first. has l.starts first && is_streak l.schedule t first (l.at_most + 1)))
