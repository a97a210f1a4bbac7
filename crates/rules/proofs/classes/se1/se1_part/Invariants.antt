use Rattle.std.proofs.Common.{◌&&◌}
use Rattle.league.specs.Sets.{has}
use Rattle.league.specs.Sums.{sum_where}
use Rattle.league.proofs.ForCallers.{IsSumWithout}
use Rattle.rules.specs.Deviations.{over, rounds_between}
use Rattle.rules.specs.Parts.{meet_in}
use Rattle.rules.specs.within.Walked.{counts_pair}
use Rattle.rules.proofs.classes.se1.se1_part.Given as goal

abbrev pub invariant-loop-team : goal.invariant-loop-team
invariant-loop-team l =
    IsSumWithout l.schedule.teams l.initial.team-iterator l.team-iterator l.total 400000
    (λ t. sum_where l.schedule.teams
    (λ p. (has l.teams p && meet_in l.schedule (has l.change.rounds) p t) && counts_pair l.change.main t p)
    (λ p. over l.least (rounds_between l.schedule p t)))
