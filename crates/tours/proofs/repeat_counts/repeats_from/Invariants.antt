use Rattle.std.proofs.Common.{◌-◌}
use Rattle.league.specs.Limits.{max_teams}
use Rattle.league.proofs.ForCallers.{IsSumWithout}
use Rattle.fixtures.specs.Games.{round_count}
use Rattle.tours.specs.Repeats.{repeats_after}
use Rattle.tours.proofs.repeat_counts.repeats_from.Given as goal

abbrev pub invariant-loop-round : goal.invariant-loop-round
invariant-loop-round l =
    IsSumWithout (round_count l.schedule.teams - 1) l.fn.firsts l.round-iterator l.total max_teams (repeats_after l.schedule)
