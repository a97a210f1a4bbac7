use Rattle.std.proofs.Common.{if◌then◌else◌}
use Rattle.league.proofs.ForCallers.{IsSumWithout}
use Rattle.rules.specs.Deviations.{over, rounds_between}
use Rattle.rules.specs.within.Walked.{counts_pair}
use Rattle.rules.proofs.classes.se1.short_with.Given as goal

abbrev pub invariant-loop-other : goal.invariant-loop-other
invariant-loop-other l =
    IsSumWithout l.schedule.teams l.fn.others l.other-iterator l.total 10000
    (λ other. if counts_pair l.main l.team other then over l.least (rounds_between l.schedule other l.team) else 0)
