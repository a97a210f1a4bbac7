use Rattle.std.proofs.Common.{◌*◌}
use Rattle.league.specs.Limits.{max_distance}
use Rattle.tours.specs.Tours.{leg}
use Rattle.tours.specs.within.Walked.{leg_exchanged}
use Rattle.tours.specs.within.Delta.{legs_changed}
use Rattle.tours.proofs.legs.TwoTotals.{AreTotals}
use Rattle.tours.proofs.rounds_delta.legs_of_ordered.Given as goal

abbrev pub invariant-loop-team : goal.invariant-loop-team
invariant-loop-team l =
    AreTotals l.schedule.teams l.fn.among l.team-iterator (4 * max_distance) l.before l.after
    (legs_changed l.schedule (leg l.league l.schedule) l.k l.l)
    (legs_changed l.schedule (leg_exchanged l.league l.schedule l.k l.l) l.k l.l)
