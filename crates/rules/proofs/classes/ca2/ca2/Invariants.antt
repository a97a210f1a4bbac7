use Rattle.league.specs.Limits.{max_rounds}
use Rattle.league.specs.Sets.{has}
use Rattle.league.proofs.ForCallers.{IsSumWithout}
use Rattle.rules.specs.Deviations.{over, games_of_team}
use Rattle.rules.proofs.classes.ca2.ca2.Given as goal

abbrev pub invariant-loop-team : goal.invariant-loop-team
invariant-loop-team l =
    IsSumWithout l.schedule.teams l.games.teams l.team-iterator l.total max_rounds
    (λ t. over (games_of_team l.schedule l.games.side (has l.games.opponents) (has l.slots) t) l.most)
