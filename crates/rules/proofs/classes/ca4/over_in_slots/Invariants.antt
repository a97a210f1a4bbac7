use Rattle.league.specs.Limits.{max_teams}
use Rattle.league.specs.Sets.{has}
use Rattle.league.proofs.ForCallers.{IsSumWithout}
use Rattle.fixtures.specs.Games.{round_count}
use Rattle.rules.specs.Deviations.{over, games_in_round}
use Rattle.rules.proofs.classes.ca4.over_in_slots.Given as goal

abbrev pub invariant-loop-round : goal.invariant-loop-round
invariant-loop-round l =
    IsSumWithout (round_count l.schedule.teams) l.fn.slots l.round-iterator l.total max_teams
    (λ r. over (games_in_round l.schedule l.games.side (has l.games.teams) (has l.games.opponents) r) l.most)
