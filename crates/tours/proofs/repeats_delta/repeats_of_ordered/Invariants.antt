use Rattle.std.proofs.Common.{◌+◌}
use Rattle.fixtures.specs.Edits.{exchanged}
use Rattle.tours.specs.within.Delta.{met, repeats_around}
use Rattle.tours.proofs.legs.TwoTotals.{AreTotals}
use Rattle.tours.proofs.repeats_delta.repeats_of_ordered.Given as goal

abbrev pub invariant-loop-team : goal.invariant-loop-team
invariant-loop-team l =
    AreTotals l.schedule.teams l.fn.among l.team-iterator 4 l.before l.after
    (λ t. repeats_around (met l.schedule t) (λ r. r) t l.k l.l)
    (λ t. repeats_around (met l.schedule t) (exchanged (l.k + 1) (l.l + 1)) t l.k l.l)
