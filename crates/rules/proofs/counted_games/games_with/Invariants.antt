use Rattle.std.proofs.Common.{if◌then◌else◌}
use Rattle.league.specs.Sets.{has}
use Rattle.league.proofs.ForCallers.{IsSumWithout}
use Rattle.fixtures.specs.Games.{round_count, cell}
use Rattle.rules.proofs.counted_games.games_with.Given as goal

abbrev pub invariant-loop-round : goal.invariant-loop-round
invariant-loop-round l =
    IsSumWithout (round_count l.schedule.teams) l.fn.rounds l.round-iterator l.count 1
    (λ r. if has l.opponents (cell l.schedule l.team r).opponent then 1 else 0)
