use Rattle.std.proofs.Common.{◌+◌, ◌-◌}
use Rattle.league.specs.Sets.{has}
use Rattle.league.specs.Sums.{sum_where}
use Rattle.league.proofs.ForCallers.{IsSumWithout}
use Rattle.fixtures.specs.Games.{round_count}
use Rattle.rules.specs.Deviations.{over, games_in_window}
use Rattle.rules.proofs.classes.ca3.over_by_teams.Given as goal

abbrev pub invariant-loop-team : goal.invariant-loop-team
invariant-loop-team l =
    IsSumWithout l.schedule.teams l.games.teams l.team-iterator l.total 6084
    (λ t. sum_where (round_count l.schedule.teams + 1 - l.window) (has l.starts)
    (λ first. over (games_in_window l.schedule l.games.side (has l.games.opponents) l.window t first) l.most))
