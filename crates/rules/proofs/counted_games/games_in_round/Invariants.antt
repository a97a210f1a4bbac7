use Rattle.std.proofs.Common.{if◌then◌else◌}
use Rattle.league.specs.Sets.{has}
use Rattle.league.proofs.ForCallers.{IsSumWithout}
use Rattle.rules.specs.Deviations.{is_counted}
use Rattle.rules.proofs.counted_games.games_in_round.Given as goal

abbrev pub invariant-loop-team : goal.invariant-loop-team
invariant-loop-team l =
    IsSumWithout l.schedule.teams l.games.teams l.team-iterator l.count 1
    (λ t. if is_counted l.schedule l.games.side (has l.games.opponents) t l.round then 1 else 0)
