use Rattle.league.specs.Limits.{max_rounds}
use Rattle.league.specs.Sets.{has}
use Rattle.league.proofs.ForCallers.{IsSumWithout}
use Rattle.rules.specs.Deviations.{over, breaks}
use Rattle.rules.proofs.classes.br1.br1.Given as goal

abbrev pub invariant-loop-team : goal.invariant-loop-team
invariant-loop-team l =
    IsSumWithout l.schedule.teams l.fn.teams l.team-iterator l.total max_rounds
    (λ t. over (breaks l.schedule t (has l.fn.slots) l.side) l.most)
