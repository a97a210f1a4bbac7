use Rattle.std.proofs.Common.{◌+◌}
use Rattle.league.specs.Starts.{start_round}
use Rattle.fixtures.specs.Games.{cell}
use Rattle.tours.specs.within.Moved.{home_moved}
use Rattle.tours.proofs.legs.TwoTotals.{AreTotals}
use Rattle.tours.proofs.moved_delta.moved_of_rounds.Given as goal

abbrev pub invariant-loop-team : goal.invariant-loop-team
invariant-loop-team l =
    AreTotals l.schedule.teams l.initial.team-iterator l.team-iterator 2 l.before l.after
    (λ t. home_moved (start_round l.league) t (cell l.schedule t l.l) l.l +
    home_moved (start_round l.league) t (cell l.schedule t l.k) l.k)
    (λ t. home_moved (start_round l.league) t (cell l.schedule t l.l) l.k +
    home_moved (start_round l.league) t (cell l.schedule t l.k) l.l)
