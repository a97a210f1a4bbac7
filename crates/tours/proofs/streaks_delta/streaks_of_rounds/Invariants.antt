use Rattle.std.proofs.Common.{true}
use Rattle.std.specs.Prelude.{if◌then◌else◌}
use Rattle.league.specs.Limits.{max_rounds}
use Rattle.fixtures.specs.Changes.{flips}
use Rattle.fixtures.specs.Edits.{rounds_exchanged}
use Rattle.tours.specs.Streaks.{streaks_of}
use Rattle.tours.proofs.legs.TwoTotals.{AreTotals}
use Rattle.tours.proofs.streaks_delta.streaks_of_rounds.Given as goal

abbrev pub invariant-loop-team : goal.invariant-loop-team
invariant-loop-team l =
    AreTotals l.schedule.teams l.initial.team-iterator l.team-iterator max_rounds l.before l.after
    (λ t. if flips l.schedule l.k l.l t then streaks_of l.schedule l.at_most t else 0)
    (λ t. if flips l.schedule l.k l.l t then streaks_of (rounds_exchanged l.schedule l.k l.l (λ _. true)) l.at_most t else 0)
