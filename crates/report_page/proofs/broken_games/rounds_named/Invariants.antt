use Rattle.std.proofs.Common.{◌≡◌, ◌||◌, ◌<◌, ℕ, length}
use Rattle.std.specs.List.{list_any}
use Rattle.league.specs.Sets.{has}
use Rattle.fixtures.specs.Games.{round_count}
use Rattle.report_breaches.specs.Cells.{names}
use Rattle.report_page.proofs.broken_games.rounds_named.Given as goal

abbrev pub invariant-loop-rest : goal.invariant-loop-rest
invariant-loop-rest l =
    (r : ℕ) → r < round_count l.schedule.teams →
    (has l.rounds r || list_any (names l.schedule l.body l.team r) l.rest) ≡ list_any (names l.schedule l.body l.team r) l.breaches

abbrev pub decreases-loop-rest : goal.decreases-loop-rest
decreases-loop-rest l = length l.rest
