use Rattle.std.proofs.Common.{◌*◌}
use Rattle.league.specs.Limits.{max_teams, max_distance}
use Rattle.league.specs.Sets.{has}
use Rattle.league.specs.Sums.{sum_where}
use Rattle.league.proofs.ForCallers.{IsSumWithout}
use Rattle.fixtures.specs.Games.{round_count}
use Rattle.tours.specs.Tours.{leg}
use Rattle.tours.proofs.travel_parts.legs_with.Given as goal

abbrev pub invariant-loop-index : goal.invariant-loop-index
invariant-loop-index l =
    IsSumWithout (round_count l.schedule.teams) l.fn.indices l.index-iterator l.total (max_teams * max_distance)
    (λ r. sum_where l.schedule.teams (has l.among) (λ t. leg l.league l.schedule t r))
