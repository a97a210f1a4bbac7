use Rattle.std.proofs.Common.{◌≡◌, ◌&&◌, ℕ, nat_lt}
use Rattle.league.specs.Sets.{has}
use Rattle.report_breaches.specs.Cells.{names_cell}
use Rattle.report_page.proofs.broken_games.rounds_at.Given as goal

abbrev pub invariant-loop-round : goal.invariant-loop-round
invariant-loop-round l = (r : ℕ) → has l.rounds r ≡ (nat_lt r l.round && names_cell l.schedule l.body l.place l.team r)
