use Rattle.std.proofs.Common.{◌+◌}
use Rattle.league.specs.Starts.{start_round}
use Rattle.fixtures.specs.Games.{cell, round_count}
use Rattle.tours.specs.within.Moved.{cell_moved}
use Rattle.tours.proofs.legs.TwoTotals.{AreTotals}
use Rattle.tours.proofs.moved_delta.moved_of_teams.Given as goal

abbrev pub invariant-loop-round : goal.invariant-loop-round
invariant-loop-round l =
    AreTotals (round_count l.schedule.teams) l.initial.round-iterator l.round-iterator 2 l.before l.after
    (λ r. cell_moved (start_round l.league) l.j (cell l.schedule l.j r) r +
    cell_moved (start_round l.league) l.i (cell l.schedule l.i r) r)
    (λ r. cell_moved (start_round l.league) l.j (cell l.schedule l.i r) r +
    cell_moved (start_round l.league) l.i (cell l.schedule l.j r) r)
