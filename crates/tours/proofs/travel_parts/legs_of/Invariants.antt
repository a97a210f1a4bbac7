use Rattle.league.specs.Limits.{max_distance}
use Rattle.league.proofs.ForCallers.{IsSumWithout}
use Rattle.tours.specs.Tours.{leg}
use Rattle.tours.proofs.travel_parts.legs_of.Given as goal

abbrev pub invariant-loop-team : goal.invariant-loop-team
invariant-loop-team l =
    IsSumWithout l.schedule.teams l.fn.among l.team-iterator l.total max_distance (λ t. leg l.league l.schedule t l.fn.index)
