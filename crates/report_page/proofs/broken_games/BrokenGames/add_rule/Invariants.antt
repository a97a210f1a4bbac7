use Rattle.std.proofs.Common.{◌≡◌, ◌&&◌, ◌||◌, ◌<◌, ℕ, nat_lt}
use Rattle.fixtures.specs.Games.{round_count}
use Rattle.report_breaches.specs.Cells.{is_marked}
use Rattle.report_page.specs.within.BrokenGames.{has_game}
use Rattle.report_page.proofs.broken_games.BrokenGames.add_rule.Given as goal

abbrev pub invariant-loop-team : goal.invariant-loop-team
invariant-loop-team l =
    (t r : ℕ) → t < l.schedule.teams → r < round_count l.schedule.teams →
    has_game l.self t r ≡ (has_game l.fn.self t r || (nat_lt t l.team && is_marked l.schedule l.rule.body t r))
