use Rattle.league.specs.Limits.{max_rounds}
use Rattle.league.specs.Sets.{has}
use Rattle.league.specs.declared.rule.Side.TheVariants.{Any}
use Rattle.league.proofs.ForCallers.{IsSumWithout}
use Rattle.rules.specs.Deviations.{breaks}
use Rattle.rules.proofs.classes.br2.breaks_together.Given as goal

abbrev pub invariant-loop-team : goal.invariant-loop-team
invariant-loop-team l =
    IsSumWithout l.schedule.teams l.fn.teams l.team-iterator l.count max_rounds
    (λ t. breaks l.schedule t (has l.fn.slots) Any)
