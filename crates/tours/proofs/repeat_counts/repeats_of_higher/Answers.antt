use Rattle.std.proofs.Common.{arith}
use Rattle.std.proofs.lemmas.Bool.Decides.{nat_tests}
use Rattle.tours.proofs.meetings.HigherTeams.{repeats_at_higher}
use Rattle.tours.proofs.repeat_counts.repeats_of_higher.Goals as goal

pub returns-clause-value : goal.returns-clause-value
returns-clause-value c =
    rw (repeats_at_higher c.args.schedule.now c.args.team c.args.round _ _ c.game_at-opponent.ensures.value c.game_at-next.ensures.value)
    (grind (arith, nat_tests))
