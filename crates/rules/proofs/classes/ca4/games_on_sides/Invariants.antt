use Rattle.league.specs.Limits.{max_rounds}
use Rattle.league.specs.Sets.{has}
use Rattle.league.proofs.ForCallers.{IsSumWithout}
use Rattle.rules.specs.Deviations.{games_of_team}
use Rattle.rules.proofs.classes.ca4.games_on_sides.Given as goal

abbrev pub invariant-loop-team : goal.invariant-loop-team
invariant-loop-team l =
    IsSumWithout l.schedule.teams l.games.teams l.team-iterator l.count max_rounds
    (games_of_team l.schedule l.games.side (has l.games.opponents) (has l.slots))
