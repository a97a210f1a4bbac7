use Rattle.std.proofs.Common.{◌≡◌, ◌<◌, ℕ, take}
use Rattle.std.specs.List.{list_any}
use Rattle.league.specs.declared.rule.Rule.{Rule}
use Rattle.fixtures.specs.Games.{round_count}
use Rattle.report_breaches.specs.Cells.{is_marked}
use Rattle.report_page.specs.within.BrokenGames.{has_game}
use Rattle.report_page.proofs.broken_games.broken_games.Given as goal

abbrev pub invariant-loop-i : goal.invariant-loop-i
invariant-loop-i l =
    (t r : ℕ) → t < l.schedule.teams → r < round_count l.schedule.teams →
    has_game l.games t r ≡ list_any (λ (rule : Rule). is_marked l.schedule rule.body t r) (take l.i l.league.rules)
