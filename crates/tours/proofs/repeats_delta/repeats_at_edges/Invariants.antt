use Rattle.std.proofs.Common.{◌+◌, ◌-◌}
use Rattle.fixtures.specs.Games.{round_count}
use Rattle.tours.specs.within.Delta.{meets_next}
use Rattle.tours.proofs.legs.TwoTotals.{AreTotals}
use Rattle.tours.proofs.repeats_delta.repeats_at_edges.Given as goal

abbrev pub invariant-loop-round : goal.invariant-loop-round
invariant-loop-round l =
    AreTotals (round_count l.schedule.teams - 1) l.fn.edges l.round-iterator 2 l.before l.after
    (λ r. meets_next l.schedule l.j l.j r + meets_next l.schedule l.i l.i r)
    (λ r. meets_next l.schedule l.j l.i r + meets_next l.schedule l.i l.j r)
